use Rattle.laying.proofs.put_four.Goals as goal

pub put_bytes-requires : goal.put_bytes-requires
put_bytes-requires c = rw c.to_le_bytes.ensures c.requires
