-- How far a run of MATCHes goes, and how many bytes its rows have.
use Prim.Native.Nat.{ℕ, zero, suc, ◌+◌, ◌-◌, ◌≤◌, ◌<◌}
use Rattle.spans.specs.Spans.{Next}
use Rattle.std.specs.Prelude.{Some, None}
use mathlib.Core.Path.{◌≡◌, refl, sym}
use mathlib.Core.Bool.{true, false}
use native.Mathlib.Omega.{arith}
use Rattle.base.proofs.Choice.{pick_true, pick_false, by_test, never}
use Rattle.base.proofs.Numbers.{here_or_later}
use Rattle.spans.specs.declared.Cursor.{Cursor}
use Rattle.numbering.specs.declared.TokenType.{TokenType}
use Rattle.numbering.specs.declared.TokenType.TheVariants as type
use Rattle.numbering.specs.Types.{Numbers, type_of}
use Rattle.tables.specs.Tables.{Table, row_at}
use Rattle.sources.specs.Source.{Source}
use Rattle.names.specs.Names.{type_in, type_at}
use Rattle.runs.specs.Runs.{is_match, run_end, text_start, text_length}

pub only_match : (t : TokenType) → is_match t ≡ true → t ≡ type.Match
only_match type.Match q = refl
only_match type.String q = absurd (never q)
only_match type.Char q = absurd (never q)
only_match type.Digits q = absurd (never q)
only_match type.Digits0 q = absurd (never q)
only_match type.Delta q = absurd (never q)
only_match type.Delta0 q = absurd (never q)
only_match type.End q = absurd (never q)
only_match type.Other q = absurd (never q)

-- where the type is MATCH, there is a type byte
pub record Matched (n : Numbers) (found : Next) : Type 0 where
  pub code : ℕ
  pub next : Cursor
  pub is : found ≡ Some (code, next)
  pub typed : type_of n code ≡ type.Match

pub matched : (n : Numbers) (found : Next) → is_match (type_in n found) ≡ true → Matched n found
unfolding type_in
matched n (Some (b, c)) q = record { code = b; next = c; is = refl; typed = only_match (type_of n b) q }
matched n None q = absurd (never q)

-- a turn of the loop over the types
module _ (s : Source) (p f : ℕ) where
  pub run_over : f ≡ 0 → p ≡ run_end s p f
  unfolding run_end
  run_over h = rw h

  module _ (g : ℕ) (h : f ≡ suc g) where
    pub run_stops : is_match (type_at s p) ≡ false → p ≡ run_end s p f
    unfolding run_end
    run_stops q = rw h (sym (pick_false _ _ q))

    pub run_more : is_match (type_at s p) ≡ true → run_end s (p + 1) g ≡ run_end s p f
    unfolding run_end
    run_more q = rw h (sym (pick_true _ _ q))

-- how many bytes rows have that lie one behind the other
module _ (rows : Table) (i j : ℕ) where
  pub text_start_law : (row_at rows i).start ≡ text_start rows i
  unfolding text_start
  text_start_law = refl

  pub text_length_law : (row_at rows (j - 1)).start + (row_at rows (j - 1)).length - (row_at rows i).start ≡ text_length rows i j
  unfolding text_length
  text_length_law = refl

-- how far a run goes
pub run_low : (s : Source) (f p : ℕ) → p ≤ run_end s p f
unfolding run_end
run_low s zero p = omega arith
run_low s (suc f) p =
    by_test (is_match (type_at s p))
    (λ q. let k = run_low s f (p + 1) in rw (pick_true (run_end s (p + 1) f) p q) (omega arith))
    (λ q. rw (pick_false (run_end s (p + 1) f) p q) (omega arith))

pub run_high : (s : Source) (f p : ℕ) → run_end s p f ≤ p + f
unfolding run_end
run_high s zero p = omega arith
run_high s (suc f) p =
    by_test (is_match (type_at s p))
    (λ q. let k = run_high s f (p + 1) in rw (pick_true (run_end s (p + 1) f) p q) (omega arith))
    (λ q. rw (pick_false (run_end s (p + 1) f) p q) (omega arith))

pub run_matches : (s : Source) (f p i : ℕ) → p ≤ i → i < run_end s p f → is_match (type_at s i) ≡ true
unfolding run_end
run_matches s zero p i h l = absurd (omega arith)
run_matches s (suc f) p i h l =
    by_test (is_match (type_at s p))
    (λ q. let k : i < run_end s (p + 1) f = rw (pick_true (run_end s (p + 1) f) p q) at l in here_or_later (λ (j : ℕ). is_match (type_at s j) ≡ true) p i h q (λ z. run_matches s f (p + 1) i z k))
    (λ q. let k : i < p = rw (pick_false (run_end s (p + 1) f) p q) at l in absurd (omega arith))
