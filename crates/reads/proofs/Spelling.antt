-- A token laid into the text and the table is spelt: its row's numbers are its own, and its text is what it prints.
use Prim.Native.Nat.{ℕ, ◌+◌}
use mathlib.Core.Path.{◌≡◌, refl, sym, ap, ◌∙◌}
use mathlib.Core.Bool.{true}
use mathlib.Core.List.{List, [], ◌∷◌}
use native.Mathlib.Omega.{arith}
use native.Mathlib.Nat.{add-zero}
use lib.ListN.{get_or}
use Rattle.base.specs.Choice.{pick}
use Rattle.base.specs.Memory.{part}
use Rattle.base.proofs.Memory.{get_d_part}
use Rattle.classes.specs.Classes.{all_allowed}
use Rattle.tokens.specs.declared.Token.{Token}
use Rattle.tokens.specs.declared.Token.TheVariants.{String, Char, Digits, Digits0}
use Rattle.tokens.specs.Tokens.{bytes_of, row_of, kind_of, number_of, width_of, length_of}
use Rattle.tables.specs.declared.Row.{Row}
use Rattle.repeats.specs.Repeats.{token_of}
use Rattle.repeating.specs.Repeats.{Spelt}

-- a new name's row of a number, and where there is none a row of zeros
abbrev pub row_in : List Row → ℕ → Row
row_in rows j = get_or rows j (record { kind = 0; number = 0; width = 0; start = 0; length = 0 })

-- where a token's bytes stand in the text, its row is spelt
pub token_spelt : (bytes kept text : List ℕ) (t : Token) (at : ℕ) → part text at (at + length_of t) ≡ bytes_of bytes kept t
    → all_allowed (bytes_of bytes kept t) ≡ true → Spelt text (row_of t at)
unfolding token_of bytes_of row_of kind_of number_of width_of length_of pick
token_spelt bytes kept text (String t) at e a = record {
  kind = refl;
  number = refl;
  width = refl;
  length = omega arith;
  prints = λ b. refl;
  allowed = ap all_allowed e ∙ a;
}
token_spelt bytes kept text (Char b) at e a =
    let z : get_or text at 0 ≡ b = ap (λ (i : ℕ). get_or text i 0) (sym (add-zero at)) ∙ sym (get_d_part text at (at + 1) 0 (omega arith)) ∙ ap (λ (l : List ℕ). get_or l 0 0) e in
    record {
      kind = refl;
      number = refl;
      width = refl;
      length = refl;
      prints = λ c. ap (λ (i : ℕ). i ∷ []) z ∙ sym e;
      allowed = ap all_allowed e ∙ a;
    }
token_spelt bytes kept text (Digits n) at e a = record {
  kind = refl;
  number = refl;
  width = refl;
  length = refl;
  prints = λ b. sym e;
  allowed = ap all_allowed e ∙ a;
}
token_spelt bytes kept text (Digits0 p) at e a = record {
  kind = refl;
  number = refl;
  width = refl;
  length = refl;
  prints = λ b. sym e;
  allowed = ap all_allowed e ∙ a;
}
