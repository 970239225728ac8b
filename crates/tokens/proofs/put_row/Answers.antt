use Rattle.tokens.specs.Tokens.{row_of}
use Rattle.tokens.proofs.put_row.Goals as goal

pub returns : goal.returns
unfolding row_of
returns c =
    rw (← c.kind.ensures, ← c.number.ensures, ← c.width.ensures, ← c.requires.len_value) c.put_row.ensures
