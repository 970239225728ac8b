-- A name grows position by position: what its text and rows come to, and what it doesn't depend on.
use Prim.Native.Nat.{ℕ, zero, suc, ◌+◌, ◌≤◌, ◌<◌}
use Rattle.values.specs.Values.{Step}
use Rattle.std.specs.Prelude.{Some, None, Ok, Err}
use Rattle.refusals.specs.declared.Reason.{Reason}
use Rattle.refusals.specs.declared.Reason.TheVariants as reason
use mathlib.Core.Path.{◌≡◌, refl, sym, ap, ◌∙◌}
use mathlib.Core.Bool.{true, false}
use mathlib.Core.List.{List, [], ◌∷◌}
use native.Mathlib.Omega.{arith}
use borrow.Author.Tests.{leb-true, eqb-false}
use lib.Dec.{leb, eqb}
use lib.ListN.{length, length-append}
use Rattle.base.specs.Choice.{pick}
use Rattle.base.proofs.Choice.{pick_true, pick_false, by_test, both_true}
use Rattle.classes.specs.Classes.{all_allowed}
use Rattle.spans.specs.declared.Cursor.{Cursor}
use Rattle.tokens.specs.Tokens.{bytes_of, row_of}
use Rattle.tokens.specs.declared.Token.{Token}
use Rattle.sources.specs.Source.{Source, Earlier}
use Rattle.steps.specs.Steps.{step_at}
use Rattle.names.specs.Names.{Draft, Named, named, refused, type_at, grown, ended, printable, onward, name_from}

pub never_named : {r : Reason} {d : Draft} → refused r ≡ named d → ⊥
never_named q = cc

pub printable_short : (bytes : List ℕ) (n : ℕ) → printable bytes n ≡ true → n + length bytes ≤ 254
unfolding printable
printable_short bytes n q = leb-true _ _ (both_true (all_allowed bytes) (leb (n + length bytes) 254) q).1

-- a name d read on to D over at most f positions
pub record Grows (d D : Draft) (f : ℕ) : Type 0 where
  pub longer : length d.text ≤ length D.text
  pub some : 1 ≤ length D.text
  pub short : length d.text ≤ 254 → length D.text ≤ 254
  pub more : d.count ≤ D.count
  pub few : D.count < d.count + f
  pub whole : length d.rows ≡ d.count → length D.rows ≡ D.count
  pub held : (1 ≤ length d.text → 1 ≤ d.count) → 1 ≤ D.count

module _ (s : Source) (e : Earlier) (used p f : ℕ) (d D : Draft) (t : Token) (c : ℕ) where
  grown_grows : printable (bytes_of s.bytes e.text t) (length d.text) ≡ true → Grows (grown s e used p t c d) D f → Grows d D (suc f)
  unfolding grown
  grown_grows y g =
      let b = bytes_of s.bytes e.text t in
      let l = length-append d.text b in
      let r = length-append d.rows (row_of t (used + length d.text) ∷ []) in
      let m = printable_short b (length d.text) y in
      record {
        longer = omega (arith, g.longer);
        some = g.some;
        short = λ h. g.short (omega arith);
        more = omega (arith, g.more);
        few = omega (arith, g.few);
        whole = λ h. g.whole (omega arith);
        held = λ h. g.held (λ z. omega arith);
      }

module _ (s : Source) (e : Earlier) (used p f : ℕ) (d D : Draft) (rest : Draft → Named) (more : (g : Draft) → rest g ≡ named D → Grows g D f) where
  ended_grows : eqb (length d.text) 0 ≡ false → named (ended p d) ≡ named D → Grows d D (suc f)
  unfolding ended
  ended_grows y q =
      let w : ended p d ≡ D = cc in
      let t : d.text ≡ D.text = ap (λ (x : Draft). x.text) w in
      let r : d.rows ≡ D.rows = ap (λ (x : Draft). x.rows) w in
      let n : d.count ≡ D.count = ap (λ (x : Draft). x.count) w in
      let z = eqb-false (length d.text) 0 y in
      let l = ap length t in
      let m = ap length r in
      record {
        longer = omega arith;
        some = omega arith;
        short = λ h. omega arith;
        more = omega arith;
        few = omega arith;
        whole = λ h. omega arith;
        held = λ h. omega (arith, h (omega arith));
      }

  onward_grows : (st : Step) → onward s e used p d st rest ≡ named D → Grows d D (suc f)
  unfolding onward
  onward_grows (Ok (Some (t, c))) q =
      let g = grown s e used p t c.0 d in
      by_test (printable (bytes_of s.bytes e.text t) (length d.text))
      (λ y. grown_grows s e used p f d D t c.0 y (more g (sym (pick_true (rest g) (refused reason.BadName) y) ∙ q)))
      (λ y. absurd (never_named (sym (pick_false (rest g) (refused reason.BadName) y) ∙ q)))
  onward_grows (Ok None) q =
      by_test (eqb (length d.text) 0)
      (λ y. absurd (never_named (sym (pick_true (refused reason.BadName) (named (ended p d)) y) ∙ q)))
      (λ y. ended_grows y (sym (pick_false (refused reason.BadName) (named (ended p d)) y) ∙ q))
  onward_grows (Err r) q = absurd (never_named q)

pub grows : (s : Source) (e : Earlier) (used f p : ℕ) (d D : Draft) → name_from s e used f p d ≡ named D → Grows d D f
unfolding name_from
grows s e used zero p d D q = absurd (never_named q)
grows s e used (suc f) p d D q = onward_grows s e used p f d D (name_from s e used f (p + 1)) (λ g. grows s e used f (p + 1) g D) (step_at s e p) q

-- what a name looks at from position p on is the same in two places
pub record Alike (s s' : Source) (e e' : Earlier) (p : ℕ) : Type 0 where
  pub steps : (q : ℕ) → p ≤ q → q ≤ 128 → step_at s' e' q ≡ step_at s e q
  pub types : (q : ℕ) → p ≤ q → q ≤ 128 → type_at s' q ≡ type_at s q
  pub bytes : (q : ℕ) → p ≤ q → q ≤ 128 → (t : Token) (c : Cursor) → step_at s e q ≡ Ok (Some (t, c))
      → bytes_of s'.bytes e'.text t ≡ bytes_of s.bytes e.text t

module _ (s s' : Source) (e e' : Earlier) (used p : ℕ) (d : Draft) (rest rest' : Draft → Named) (k : type_at s' p ≡ type_at s p)
    (r : (g : Draft) → rest' g ≡ rest g) where
  grown_same : (t : Token) (c : ℕ) → bytes_of s'.bytes e'.text t ≡ bytes_of s.bytes e.text t → grown s' e' used p t c d ≡ grown s e used p t c d
  unfolding grown
  grown_same t c b = rw (b, k)

  onward_same : (st : Step) → ((t : Token) (c : Cursor) → st ≡ Ok (Some (t, c)) → bytes_of s'.bytes e'.text t ≡ bytes_of s.bytes e.text t)
      → onward s' e' used p d st rest' ≡ onward s e used p d st rest
  unfolding onward
  onward_same (Ok (Some (t, c))) h =
      let b = h t c refl in
      rw b (ap (λ (x : Named). pick (printable (bytes_of s.bytes e.text t) (length d.text)) x (refused reason.BadName))
      (r (grown s' e' used p t c.0 d) ∙ ap rest (grown_same t c.0 b)))
  onward_same (Ok None) h = refl
  onward_same (Err n) h = refl

pub name_same : (s s' : Source) (e e' : Earlier) (used f p : ℕ) (d : Draft) → p + f ≤ 129 → Alike s s' e e' p → name_from s' e' used f p d ≡ name_from s e used f p d
unfolding name_from
name_same s s' e e' used zero p d h a = refl
name_same s s' e e' used (suc f) p d h a =
    ap (λ (st : Step). onward s' e' used p d st (name_from s' e' used f (p + 1))) (a.steps p (omega arith) (omega arith))
    ∙ onward_same s s' e e' used p d (name_from s e used f (p + 1)) (name_from s' e' used f (p + 1)) (a.types p (omega arith) (omega arith))
    (λ g.
    name_same s s' e e' used f (p + 1) g (omega arith)
    (record { steps = λ q i j. a.steps q (omega arith) j; types = λ q i j. a.types q (omega arith) j; bytes = λ q i j. a.bytes q (omega arith) j }))
    (step_at s e p) (a.bytes p (omega arith) (omega arith))
