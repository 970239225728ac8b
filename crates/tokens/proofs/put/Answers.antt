use native.Mathlib.Omega.{arith}
use Rattle.digits.proofs.Laws.{printed_short}
use Rattle.tokens.specs.Tokens.{bytes_of, length_of}
use Rattle.tokens.proofs.put.Goals as goal

pub put_text-requires : goal.put_text-requires
unfolding length_of
put_text-requires c =
    let e = c.in-String.is in record {
      start_le_end = rw e at c.requires.inside;
      end_le_at = rw e at c.requires.kept_below;
      start_in_bounds = rw e at c.requires.t_in_bounds;
    }

pub put-requires : goal.put-requires
unfolding length_of
put-requires c =
    rw c.in-Char.is at c.requires.t_in_bounds

pub print-requires : goal.print-requires
unfolding length_of
print-requires c =
    rw c.in-Digits.is at c.requires.t_in_bounds

pub overflow_cast-result : goal.overflow_cast-result
overflow_cast-result c =
    omega (arith, c.print.ensures.0, printed_short c.in-Digits.n)

pub print_padded-requires : goal.print_padded-requires
unfolding length_of
print_padded-requires c =
    rw c.in-Digits0.is at c.requires.t_in_bounds

pub returns-in-String : goal.returns-in-String
unfolding bytes_of length_of
returns-in-String c =
    let e = c.in-String.is in record {
      value = rw e c.text_length.ensures;
      text_value = rw e c.put_text.ensures;
    }

pub returns-in-Char : goal.returns-in-Char
unfolding bytes_of length_of
returns-in-Char c =
    let e = c.in-Char.is in record {
      value = rw e;
      text_value = rw e c.put.ensures;
    }

pub returns-in-Digits : goal.returns-in-Digits
unfolding bytes_of length_of
returns-in-Digits c =
    let e = c.in-Digits.is in record {
      value = rw e c.print.ensures.0;
      text_value = rw e c.print.ensures.1;
    }

pub returns-in-Digits0 : goal.returns-in-Digits0
unfolding bytes_of length_of
returns-in-Digits0 c =
    let e = c.in-Digits0.is in record {
      value = rw e;
      text_value = rw e c.print_padded.ensures;
    }
