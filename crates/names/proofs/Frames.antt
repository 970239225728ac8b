-- The cursors of a name: those before its first position don't matter to it, and it leaves the block open.
use Prim.Native.Nat.{ℕ, zero, suc, ◌+◌, ◌*◌, ◌≤◌}
use Rattle.values.specs.Values.{Step}
use Rattle.std.specs.Prelude.{Some, None, Ok, Err}
use Rattle.refusals.specs.declared.Reason.{Reason}
use Rattle.refusals.specs.declared.Reason.TheVariants as reason
use mathlib.Core.Path.{◌≡◌, refl, sym, ap, ◌∙◌}
use mathlib.Core.List.{List, []}
use native.Mathlib.Omega.{arith}
use lib.Dec.{eqb}
use lib.ListN.{length}
use Rattle.base.proofs.Choice.{pick_true, pick_false, by_test}
use Rattle.spans.specs.declared.Cursor.{Cursor}
use Rattle.block.specs.Block.{span_of, cursor_of}
use Rattle.block.specs.Open.{Open}
use Rattle.tokens.specs.Tokens.{bytes_of}
use Rattle.tokens.specs.declared.Token.{Token}
use Rattle.numbering.specs.Types.{Rules}
use Rattle.sources.specs.Source.{Source, source, Earlier, byte_in}
use Rattle.steps.specs.Steps.{step_at}
use Rattle.steps.proofs.Frame.{byte_in_same, step_cursors}
use Rattle.names.specs.Names.{Draft, draft, Named, named, refused, type_in, type_at, grown, ended, printable, onward, name_from, name_of}
use Rattle.moving.specs.Moves.{past}
use Rattle.names.specs.declared.Size.{Size}
use Rattle.names.specs.Judge.{summary, draft_of}
use Rattle.names.proofs.Cursors.{open_token, open_ended}
use Rattle.moving.proofs.Moves.{past_later, value_later}
use Rattle.names.proofs.Growing.{never_named, Grows, grows, name_same}

-- two tables have the same cursors from position p on
abbrev pub SameFrom : ℕ → List ℕ → List ℕ → Type 0
SameFrom p a b = (j : ℕ) → 10 * p ≤ j → cursor_of a j ≡ cursor_of b j

same_at : (p q : ℕ) (a b : List ℕ) → SameFrom p a b → p ≤ q → (i : ℕ) → i ≤ 9 → cursor_of a (span_of q i) ≡ cursor_of b (span_of q i)
unfolding span_of
same_at p q a b h l i k = h (10 * q + i) (omega arith)

-- only the cursors from position 1 on matter to a name
pub name_cursors : (rules : Rules) (bytes dir cur other : List ℕ) (e : Earlier) (used : ℕ) (c : List ℕ) → SameFrom 1 cur other
    → name_of (source rules bytes dir cur) e used c ≡ name_of (source rules bytes dir other) e used c
unfolding name_of
name_cursors rules bytes dir cur other e used c h =
    name_same (source rules bytes dir other) (source rules bytes dir cur) e e used 128 1 (draft [] [] 0 c) (omega arith)
    (record {
      steps = λ q k l. step_cursors rules bytes dir cur other q (same_at 1 q cur other h k) e;
      types = λ q k l. ap (type_in rules.numbers) (byte_in_same rules bytes dir cur other q (same_at 1 q cur other h k) 0 (omega arith));
      bytes = λ q k l t u r. refl;
    })

-- what is read leaves every cursor inside its span
module _ (rules : Rules) (bytes dir cur : List ℕ) (e : Earlier) (used : ℕ) where
  module _ (p : ℕ) (d : Draft) (high : p ≤ 128) (o : Open bytes dir d.cur) (same : SameFrom p d.cur cur) where
    -- what stands at the position is what stood there when the name began
    pub step_here : step_at (source rules bytes dir d.cur) e p ≡ step_at (source rules bytes dir cur) e p
    step_here = step_cursors rules bytes dir d.cur cur p (same_at p p d.cur cur same (omega arith)) e

    pub type_here : byte_in (source rules bytes dir d.cur) p 0 ≡ byte_in (source rules bytes dir cur) p 0
    type_here = byte_in_same rules bytes dir d.cur cur p (same_at p p d.cur cur same (omega arith)) 0 (omega arith)

    -- past its token
    pub grown_open : (t : Token) (c : Cursor) → step_at (source rules bytes dir cur) e p ≡ Ok (Some (t, c)) → Open bytes dir (grown (source rules bytes dir cur) e used p t c.0 d).cur
    unfolding grown
    grown_open t c q = rw (← type_here) (open_token rules bytes dir d.cur o e p high (step_here ∙ q))

    pub grown_same : (t : Token) (c : Cursor) → SameFrom (p + 1) (grown (source rules bytes dir cur) e used p t c.0 d).cur cur
    unfolding grown
    grown_same t c j k =
        value_later (type_at (source rules bytes dir cur) p) (past d.cur (span_of p 0) 1) p c.0 j k
        ∙ past_later d.cur p 0 1 j (omega arith) k ∙ same j (omega arith)

    module _ (f : ℕ) (D : Draft)
        (on : (x : Draft) → Open bytes dir x.cur → SameFrom (p + 1) x.cur cur → name_from (source rules bytes dir cur) e used f (p + 1) x ≡ named D → Open bytes dir D.cur) where
      ended_open : step_at (source rules bytes dir cur) e p ≡ Ok None → named (ended p d) ≡ named D → Open bytes dir D.cur
      unfolding ended
      ended_open q r =
          let w : ended p d ≡ D = cc in
          let k = ap (λ (x : Draft). x.cur) w in
          rw (← k) (open_ended rules bytes dir d.cur o e p high (step_here ∙ q))

      onward_open : (st : Step) → step_at (source rules bytes dir cur) e p ≡ st
          → onward (source rules bytes dir cur) e used p d st (name_from (source rules bytes dir cur) e used f (p + 1)) ≡ named D → Open bytes dir D.cur
      unfolding onward
      onward_open (Ok (Some (t, c))) q r =
          let g = grown (source rules bytes dir cur) e used p t c.0 d in
          let y = name_from (source rules bytes dir cur) e used f (p + 1) g in
          by_test (printable (bytes_of bytes e.text t) (length d.text))
          (λ z. on g (grown_open t c q) (grown_same t c) (sym (pick_true y (refused reason.BadName) z) ∙ r))
          (λ z. absurd (never_named (sym (pick_false y (refused reason.BadName) z) ∙ r)))
      onward_open (Ok None) q r =
          by_test (eqb (length d.text) 0)
          (λ z. absurd (never_named (sym (pick_true (refused reason.BadName) (named (ended p d)) z) ∙ r)))
          (λ z. ended_open q (sym (pick_false (refused reason.BadName) (named (ended p d)) z) ∙ r))
      onward_open (Err n) q r = absurd (never_named r)

  from_open : (f p : ℕ) (d D : Draft) → p + f ≤ 129 → Open bytes dir d.cur → SameFrom p d.cur cur
      → name_from (source rules bytes dir cur) e used f p d ≡ named D → Open bytes dir D.cur
  unfolding name_from
  from_open zero p d D h o s q = absurd (never_named q)
  from_open (suc f) p d D h o s q =
      onward_open p d (omega arith) o s f D (λ x a b r. from_open f (p + 1) x D (omega arith) a b r) (step_at (source rules bytes dir cur) e p) refl q

  pub name_open : (c : List ℕ) (D : Draft) → Open bytes dir c → SameFrom 1 c cur → name_of (source rules bytes dir cur) e used c ≡ named D → Open bytes dir D.cur
  unfolding name_of
  name_open c D o h q = from_open 128 1 (draft [] [] 0 c) D (omega arith) o h q

-- what a judgement tells of the name
pub record Judges (n : Named) (r b : ℕ) : Type 0 where
  pub whole : n ≡ named (draft_of n)
  pub rows : (draft_of n).count ≡ r
  pub bytes : length (draft_of n).text ≡ b

pub judged_name : (n : Named) {s : Size} → Ok s ≡ summary n → Judges n s.rows s.length
unfolding summary draft_of
judged_name (named d) {s} q =
    let w : s ≡ record { rows = d.count; length = length d.text } = cc in
    record { whole = refl; rows = sym (ap (λ (x : Size). x.rows) w); bytes = sym (ap (λ (x : Size). x.length) w) }
judged_name (refused k) q = cc

pub judged_refused : (n : Named) {r : Reason} → Err r ≡ summary n → n ≡ refused r
unfolding summary
judged_refused (named d) q = cc
judged_refused (refused k) {r} q = let x : r ≡ k = cc in ap refused (sym x)

-- the bounds of a name
pub name_bounds : (s : Source) (e : Earlier) (used : ℕ) (c : List ℕ) (D : Draft) → name_of s e used c ≡ named D → Grows (draft [] [] 0 c) D 128
unfolding name_of
name_bounds s e used c D q = grows s e used 128 1 (draft [] [] 0 c) D q
