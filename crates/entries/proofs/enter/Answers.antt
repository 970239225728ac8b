use native.Mathlib.Omega.{arith}
use Rattle.entries.proofs.Entries.{entered}
use Rattle.entries.proofs.enter.Goals as goal

pub returns : goal.returns
returns c =
    let a = c.args in record {
      value = entered a.state a.bytes a.added (omega arith) (omega arith) (omega arith) (omega arith);
      entries_value = rw c.put_entry.ensures;
    }
