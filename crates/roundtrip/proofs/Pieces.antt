-- A token of a name prints the bytes that it was cut from, and its numbers are small.
use Prim.Native.Nat.{ℕ, zero, suc, ◌+◌, ◌-◌, ◌^◌, ◌≤◌, ◌<◌}
use mathlib.Core.Path.{◌≡◌, refl, sym, ap, ◌∙◌}
use mathlib.Core.Bool.{true}
use mathlib.Core.List.{List, [], ◌∷◌}
use native.Mathlib.Omega.{arith}
use native.Mathlib.Nat.{add-zero}
use borrow.Author.Tests.{leb-true, ltb-true, ltb-false, lt-ltb, le-ltb, eqb-true, eqb-false}
use lib.Dec.{leb, ltb, eqb}
use lib.ListN.{length, get_or}
use Rattle.base.specs.Choice.{both}
use Rattle.base.specs.Memory.{part}
use Rattle.base.proofs.Choice.{pick_true, pick_false, both_true, by_test, pick_holds}
use Rattle.base.proofs.Memory.{length_part, get_d_part}
use Rattle.digits.specs.Digits.{fits_width, value_of, all_digits}
use Rattle.base.proofs.Every.{every_at}
use Rattle.base.proofs.Lists.{part_first, part_none}
use Rattle.digits.proofs.Laws.{value_below, padded_value, printed_value, fits_of, fits_nine}
use Rattle.classes.specs.declared.Class.TheVariants.{Digit}
use Rattle.classes.specs.Classes.{is_allowed, all_allowed, class_of, same_class}
use Rattle.classes.proofs.Laws.{same_true}
use Rattle.tables.specs.declared.Row.{Row}
use Rattle.pieces.specs.declared.Piece.{Piece}
use Rattle.pieces.specs.declared.Piece.TheVariants.{String, Char, Digits, Digits0}
use Rattle.splitting.specs.Split.{run_at, cut_at}
use Rattle.pieces.specs.Pieces.{text_piece, number_piece, piece_at}
use Rattle.splitting.proofs.Runs.{run_range, run_number, cut_last, cut_run}
use Rattle.roundtrip.specs.Rows.{piece_bytes, piece_row, rows_from, count_from}

pub allowed_range : (b : ℕ) → is_allowed b ≡ true → (33 ≤ b) × (b ≤ 126)
unfolding is_allowed
allowed_range b e = by_test (both (leb 33 b) (leb b 63))
    (λ t.
    let p = both_true (leb 33 b) (leb b 63) t in
    let l : 33 ≤ b = leb-true _ _ p.0 in
    let h : b ≤ 63 = leb-true _ _ p.1 in
    (l, omega arith))
    (λ t.
    let p = both_true (leb 65 b) (leb b 126) (sym (pick_false true (both (leb 65 b) (leb b 126)) t) ∙ e) in
    let l : 65 ≤ b = leb-true _ _ p.0 in
    (omega arith, leb-true _ _ p.1))

pub no_zero_law : (s : List ℕ) → all_allowed s ≡ true → (k : ℕ) → k < length s → get_or s k 0 ≡ 0 → ⊥
no_zero_law s e k h z = let r = allowed_range (get_or s k 0) (every_at is_allowed s e k h) in omega arith

-- what is known of a token's values
abbrev pub Small : List ℕ → Piece → Type 0
Small s (String a e) = (k : ℕ) → k < length (part s a e) → get_or (part s a e) k 0 ≡ 0 → ⊥
Small s (Char b) = Unit
Small s (Digits n) = n < 10 ^ 9
Small s (Digits0 x) = (x.number < 10 ^ 9) × ((fits_width x.number x.width ≡ true) × (x.width ≤ 9))

-- a token that was cut from at to end
pub record Cut (s : List ℕ) (at end : ℕ) (x : Piece) : Type 0 where
  pub bytes : piece_bytes s x ≡ part s at end
  pub small : Small s x

module _ (s : List ℕ) (good : all_allowed s ≡ true) (at : ℕ) where
  one_byte : (end : ℕ) → end ≤ length s → end ≡ at + 1 → get_or s at 0 ∷ [] ≡ part s at end
  one_byte end h e =
      sym (part_first s at end (omega arith) h ∙ ap (λ (l : List ℕ). get_or s at 0 ∷ l) (part_none s (at + 1) end (omega arith)))

  text_cut : (end : ℕ) → at < end → end ≤ length s → Cut s at end (text_piece s at end)
  unfolding text_piece piece_bytes
  text_cut end h k =
      pick_holds (Cut s at end) (eqb end (at + 1)) (Char (get_or s at 0)) (String at end)
      (λ t. record { bytes = one_byte end k (eqb-true _ _ t); small = tt })
      (λ t.
      record {
        bytes = refl;
        small =
            λ j l z.
            let m : length (part s at end) ≡ end - at = length_part s at end (omega arith) k in
            no_zero_law s good (at + j) (omega arith) (sym (get_d_part s at end j (omega arith)) ∙ z);
      })

  module _ (h : at < length s) where
    number_cut : class_of (get_or s at 0) ≡ Digit → Cut s at (run_at s at) (number_piece s at (run_at s at))
    unfolding number_piece piece_bytes
    number_cut e =
        let end : ℕ = run_at s at in
        let r = run_range s at h in
        let d = run_number s at h e in
        let w : ℕ = end - at in
        let l : length (part s at end) ≡ w = length_part s at end (omega arith) r.1 in
        let a : all_digits (part s at end) ≡ true = d.1 in
        let one : 1 ≤ w = omega arith in
        let f : fits_width (value_of (part s at end)) w ≡ true = fits_of (value_of (part s at end)) w one (value_below (part s at end) w a l) in
        let nine : value_of (part s at end) < 10 ^ 9 = fits_nine (value_of (part s at end)) w f d.0 in
        pick_holds (Cut s at end) (eqb (get_or s at 0) 48) _ _
        (λ t. record { bytes = padded_value (part s at end) w a l; small = (nine, (f, d.0)) })
        (λ t.
        record {
          bytes =
              printed_value (part s at end) w a l one d.0
              (λ z. eqb-false _ _ t (ap (λ (n : ℕ). get_or s n 0) (sym (add-zero at)) ∙ sym (get_d_part s at end 0 (omega arith)) ∙ z));
          small = nine;
        })

    -- the token that begins at a place of an allowed name
    pub piece_cut : (p : ℕ) → Cut s at (cut_at s p at) (piece_at s p at)
    unfolding piece_at
    piece_cut p =
        let r = run_range s at h in
        pick_holds (Cut s at (cut_at s p at)) (eqb p 127) _ _
        (λ t. rw (cut_last s at h p (eqb-true _ _ t)) (text_cut (length s) h (omega arith)))
        (λ t.
        rw (cut_run s at h p (eqb-false _ _ t))
        (pick_holds (Cut s at (run_at s at)) (same_class (class_of (get_or s at 0)) Digit) _ _
        (λ g. number_cut (same_true _ _ g))
        (λ g. text_cut (run_at s at) r.0 r.1)))

-- The rows one by one

module _ (s : List ℕ) (f p a : ℕ) where
  pub rows_more : (at : ℕ) → a < length s → rows_from s at (suc f) p a ≡ piece_row s (piece_at s p a) (at + a) ∷ rows_from s at f (p + 1) (cut_at s p a)
  unfolding rows_from
  rows_more at h = pick_true _ _ (lt-ltb _ _ h)

  pub count_more : a < length s → count_from s (suc f) p a ≡ 1 + count_from s f (p + 1) (cut_at s p a)
  unfolding count_from
  count_more h = pick_true _ _ (lt-ltb _ _ h)

pub rows_out : (s : List ℕ) (f p a at : ℕ) → length s ≤ a → rows_from s at f p a ≡ []
unfolding rows_from
rows_out s zero p a at h = refl
rows_out s (suc f) p a at h = pick_false _ _ (le-ltb _ _ h)

pub count_out : (s : List ℕ) (f p a : ℕ) → length s ≤ a → count_from s f p a ≡ 0
unfolding count_from
count_out s zero p a h = refl
count_out s (suc f) p a h = pick_false _ _ (le-ltb _ _ h)

pub count_most : (s : List ℕ) (f p a : ℕ) → count_from s f p a ≤ f
unfolding count_from
count_most s zero p a = omega arith
count_most s (suc f) p a =
    pick_holds (λ (n : ℕ). n ≤ suc f) (ltb a (length s)) _ _ (λ t. omega (arith, count_most s f (p + 1) (cut_at s p a))) (λ t. omega arith)

pub length_rows : (s : List ℕ) (at f p a : ℕ) → length (rows_from s at f p a) ≡ count_from s f p a
unfolding rows_from count_from
length_rows s at zero p a = refl
length_rows s at (suc f) p a =
    by_test (ltb a (length s))
    (λ t.
    let h : a < length s = ltb-true _ _ t in
    let n : ℕ = count_from s f (p + 1) (cut_at s p a) in
    let r : List Row = rows_from s at f (p + 1) (cut_at s p a) in
    let q : length r ≡ n = length_rows s at f (p + 1) (cut_at s p a) in
    ap length (rows_more s f p a at h) ∙ omega (arith, count_more s f p a h))
    (λ t.
    let h : length s ≤ a = ltb-false _ _ t in
    ap length (rows_out s (suc f) p a at h) ∙ omega (arith, count_out s (suc f) p a h))
