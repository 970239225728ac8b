-- A name is judged by lengths alone: the text that is kept and the cursors that are moved don't matter.
use Prim.Native.Nat.{ℕ, zero, suc, ◌+◌, ◌≤◌, ◌<◌}
use Rattle.values.specs.Values.{Step}
use Rattle.names.specs.Names.{Judged, Draft, draft, Named, named, refused, grown, ended, printable, onward, name_from, name_of}
use Rattle.std.specs.Prelude.{Some, None, Ok, Err}
use Rattle.refusals.specs.declared.Reason.{Reason}
use Rattle.refusals.specs.declared.Reason.TheVariants as reason
use mathlib.Core.Path.{◌≡◌, refl, sym, ap, ◌∙◌}
use mathlib.Core.Bool.{Bool, true, false}
use mathlib.Core.List.{List, []}
use native.Mathlib.Omega.{arith}
use borrow.Author.Tests.{le-leb, lt-leb}
use lib.Dec.{eqb}
use lib.ListN.{length, length-append}
use Rattle.base.specs.Choice.{pick}
use Rattle.base.proofs.Choice.{pick_true, pick_false, by_test, both_of, both_left, both_right}
use Rattle.classes.specs.Classes.{all_allowed}
use Rattle.tokens.specs.Tokens.{bytes_of}
use Rattle.tokens.specs.declared.Token.{Token}
use Rattle.spans.specs.declared.Cursor.{Cursor}
use Rattle.sources.specs.Source.{Source, Earlier}
use Rattle.steps.specs.Steps.{step_at}
use Rattle.names.specs.Judge.{summary}

-- what a step makes of a name of so many bytes and rows
unfoldable pub judge_on : Source → Earlier → ℕ → ℕ → Step → (ℕ → ℕ → Judged) → Judged
judge_on s e len n (Ok (Some (t, c))) rest =
    pick (printable (bytes_of s.bytes e.text t) len) (rest (len + length (bytes_of s.bytes e.text t)) (n + 1)) (Err reason.BadName)
judge_on s e len n (Ok None) rest = pick (eqb len 0) (Err reason.BadName) (Ok (record { rows = n; length = len }))
judge_on s e len n (Err r) rest = Err r

unfoldable pub judge_from : Source → Earlier → ℕ → ℕ → ℕ → ℕ → Judged
judge_from s e zero p len n = Err reason.NotEnd
judge_from s e (suc f) p len n = judge_on s e len n (step_at s e p) (judge_from s e f (p + 1))

module _ (s : Source) (e : Earlier) (used p : ℕ) (d : Draft) (rest : Draft → Named) (onto : ℕ → ℕ → Judged) where
  judged_on : ((d : Draft) → summary (rest d) ≡ onto (length d.text) d.count) → (st : Step)
      → summary (onward s e used p d st rest) ≡ judge_on s e (length d.text) d.count st onto
  unfolding onward judge_on summary grown ended
  judged_on h (Ok (Some (t, c))) =
      let b = bytes_of s.bytes e.text t in
      let g = grown s e used p t c.0 d in
      by_test (printable b (length d.text))
      (λ q.
      ap summary (pick_true (rest g) (refused reason.BadName) q) ∙ h g
      ∙ ap (λ (l : ℕ). onto l (d.count + 1)) (length-append d.text b)
      ∙ sym (pick_true (onto (length d.text + length b) (d.count + 1)) (Err reason.BadName) q))
      (λ q. ap summary (pick_false (rest g) (refused reason.BadName) q) ∙ sym (pick_false (onto (length d.text + length b) (d.count + 1)) (Err reason.BadName) q))
  judged_on h (Ok None) =
      by_test (eqb (length d.text) 0)
      (λ q. ap summary (pick_true (refused reason.BadName) (named (ended p d)) q) ∙ sym (pick_true (Err reason.BadName) (Ok (record { rows = d.count; length = length d.text })) q))
      (λ q. ap summary (pick_false (refused reason.BadName) (named (ended p d)) q) ∙ sym (pick_false (Err reason.BadName) (Ok (record { rows = d.count; length = length d.text })) q))
  judged_on h (Err r) = refl

pub judge_from_law : (s : Source) (e : Earlier) (used f p : ℕ) (d : Draft) → summary (name_from s e used f p d) ≡ judge_from s e f p (length d.text) d.count
unfolding name_from judge_from summary
judge_from_law s e used zero p d = refl
judge_from_law s e used (suc f) p d = judged_on s e used p d (name_from s e used f (p + 1)) (judge_from s e f (p + 1)) (judge_from_law s e used f (p + 1)) (step_at s e p)

pub judge_of : (s : Source) (e : Earlier) (used : ℕ) (cur : List ℕ) → summary (name_of s e used cur) ≡ judge_from s e 128 1 0 0
unfolding name_of
judge_of s e used cur = judge_from_law s e used 128 1 (draft [] [] 0 cur)

-- a turn of the loop: one law for each way the step can go
module _ (s : Source) (e : Earlier) (g f p len n : ℕ) (all : Judged) (q : g ≡ suc f) (inv : judge_from s e g p len n ≡ all) where
  one : judge_on s e len n (step_at s e p) (judge_from s e f (p + 1)) ≡ all
  unfolding judge_from
  one = rw q at inv

  pub refuses : {r : Reason} → step_at s e p ≡ Err r → Err r ≡ all
  unfolding judge_on
  refuses h = rw h at one

  pub empty : step_at s e p ≡ Ok None → eqb len 0 ≡ true → Err reason.BadName ≡ all
  unfolding judge_on
  empty h z = sym (pick_true _ _ z) ∙ rw h at one

  pub ends : step_at s e p ≡ Ok None → eqb len 0 ≡ false → Ok (record { rows = n; length = len }) ≡ all
  unfolding judge_on
  ends h z = sym (pick_false _ _ z) ∙ rw h at one

  pub spoils : {t : Token} {c : Cursor} → step_at s e p ≡ Ok (Some (t, c)) → printable (bytes_of s.bytes e.text t) len ≡ false → Err reason.BadName ≡ all
  unfolding judge_on
  spoils h z = sym (pick_false _ _ z) ∙ rw h at one

  pub goes : {t : Token} {c : Cursor} {w m : ℕ} → step_at s e p ≡ Ok (Some (t, c)) → printable (bytes_of s.bytes e.text t) len ≡ true
      → w ≡ length (bytes_of s.bytes e.text t) → m ≡ n + 1 → judge_from s e f (p + 1) (len + w) m ≡ all
  unfolding judge_on
  goes {t} {c} {w} {m} h z l k =
      ap (λ (j : ℕ). judge_from s e f (p + 1) (len + w) j) k
      ∙ ap (λ (j : ℕ). judge_from s e f (p + 1) (len + j) (n + 1)) l
      ∙ sym (pick_true _ _ z) ∙ rw h at one

pub over : (s : Source) (e : Earlier) (g p len n : ℕ) (all : Judged) → g ≡ 0 → judge_from s e g p len n ≡ all → Err reason.NotEnd ≡ all
unfolding judge_from
over s e g p len n all q inv = rw q at inv

-- 8, in a contract's direction
pub long_spoils : (bytes : List ℕ) (n w : ℕ) → w ≡ length bytes → 254 < n + w → false ≡ printable bytes n
unfolding printable
long_spoils bytes n w e h =
    by_test (all_allowed bytes)
    (λ q. sym (both_right q (lt-leb (n + length bytes) 254 (omega arith))))
    (λ q. sym (both_left _ q))

pub short_prints : (bytes : List ℕ) (n w : ℕ) {r : Bool} → w ≡ length bytes → n + w ≤ 254 → r ≡ all_allowed bytes → r ≡ printable bytes n
unfolding printable
short_prints bytes n w {r} e h q =
    by_test (all_allowed bytes)
    (λ y. q ∙ y ∙ sym (both_of y (le-leb (n + length bytes) 254 (omega arith))))
    (λ y. q ∙ y ∙ sym (both_left _ y))
