use mathlib.Core.Path.{sym, ◌∙◌}
use Rattle.tokens.specs.Tokens.{bytes_of}
use Rattle.classes.proofs.Laws.{allowed_one, allowed_printed, allowed_padded}
use Rattle.tokens.proofs.allowed.Goals as goal

pub text_allowed-requires : goal.text_allowed-requires
text_allowed-requires c =
    rw c.in-String.is at c.requires

pub returns-in-String : goal.returns-in-String
unfolding bytes_of
returns-in-String c = rw c.in-String.is c.text_allowed.ensures

pub returns-in-Char : goal.returns-in-Char
unfolding bytes_of
returns-in-Char c = rw c.in-Char.is (c.is_allowed.ensures ∙ sym (allowed_one _))

pub returns-in-Digits : goal.returns-in-Digits
unfolding bytes_of
returns-in-Digits c = rw c.in-Digits.is (sym (allowed_printed _))

pub returns-in-Digits0 : goal.returns-in-Digits0
unfolding bytes_of
returns-in-Digits0 c = rw c.in-Digits0.is (sym (allowed_padded _ _))
