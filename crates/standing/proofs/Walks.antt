-- The tokens of a name: a walk over the positions makes the draft that the words say.
use Prim.Native.Nat.{ℕ, zero, suc, ◌+◌, ◌≤◌}
use Rattle.refusals.specs.declared.Reason.{Reason}
use Rattle.refusals.specs.declared.Reason.TheVariants as reason
use Rattle.values.specs.Values.{Step}
use mathlib.Core.Path.{◌≡◌, refl, sym, ap, ◌∙◌}
use mathlib.Core.List.{List, [], ◌∷◌, ◌++◌, append_assoc, append-nil}
use native.Mathlib.Omega.{arith}
use native.Mathlib.Nat.{add-zero}
use lib.Dec.{leb, eqb}
use lib.ListN.{length, length-append}
use Rattle.base.proofs.Choice.{pick_two}
use Rattle.base.specs.Choice.{both}
use Rattle.classes.specs.Classes.{all_allowed}
use Rattle.spans.specs.declared.Cursor.{Cursor}
use Rattle.block.specs.Block.{span_of}
use Rattle.block.specs.Open.{Open}
use Rattle.tables.specs.declared.Row.{Row}
use Rattle.tokens.specs.declared.Token.{Token}
use Rattle.tokens.specs.Tokens.{bytes_of, length_of}
use Rattle.numbering.specs.Types.{Rules}
use Rattle.sources.specs.Source.{Source, source, Earlier}
use Rattle.steps.specs.Steps.{step_at}
use Rattle.moving.specs.Moves.{past, value_past}
use Rattle.names.proofs.Frames.{SameFrom, step_here, type_here, grown_open, grown_same}
use Rattle.names.specs.Names as names
use Rattle.names.specs.Names.{Draft, draft, Named, named, type_at, grown, ended, printable, name_from, name_of}
use Rattle.words.specs.Fronts.{Spans, Said, said, refused, then}
use Rattle.words.specs.Values.{Value, prints, spelt, row_for}
use Rattle.words.specs.Words.{Found, found, onward, behind, tokens_from}
use Rattle.standing.specs.Stands.{Left}
use Rattle.standing.proofs.Shown.{shown, shown_prints, shown_row, RowsTell, none, more}
use Rattle.standing.proofs.Steps as steps
use Rattle.standing.proofs.Steps.{StepSaid, step_said}

-- the rows of tokens whose printed bytes stand one behind the other
unfoldable pub rows_for : List Value → ℕ → List Row
rows_for [] at = []
rows_for (v ∷ vs) at = row_for v at ∷ rows_for vs (at + length (prints v))

-- a draft with these tokens more
pub record Grew (used : ℕ) (d x : Draft) (vs : List Value) : Type 0 where
  pub text : x.text ≡ d.text ++ spelt vs
  pub rows : x.rows ≡ d.rows ++ rows_for vs (used + length d.text)
  pub count : x.count ≡ d.count + length vs

-- a name and what the words say of it
pub data NameSaid (bytes dir : List ℕ) (used : ℕ) (d : Draft) : Named → Said (List Value) → Type 0 where
  refuses : (r : Reason) → NameSaid bytes dir used d (names.refused r) (refused r)
  makes : (x : Draft) (vs : List Value) (spans : Spans) → Grew used d x vs → Left bytes dir x.cur spans → NameSaid bytes dir used d (named x) (said vs spans)

rows_behind : (e : Earlier) (p : ℕ) (vs : List Value) → RowsTell e p vs → RowsTell e (p + 1) (behind vs)
unfolding behind
rows_behind e p vs (none q a) = none (p + 1) (omega (arith, a))
rows_behind e p vs (more q v ws a x r) = r

-- a token more, and then the rest
module _ (used : ℕ) (d g : Draft) (v : Value) (text : g.text ≡ d.text ++ prints v) (rows : g.rows ≡ d.rows ++ (row_for v (used + length d.text) ∷ []))
    (count : g.count ≡ d.count + 1) where
  grew_then : (x : Draft) (vs : List Value) → Grew used g x vs → Grew used d x (v ∷ vs)
  unfolding spelt rows_for
  grew_then x vs h =
      let long : length g.text ≡ length d.text + length (prints v) = ap length text ∙ length-append d.text (prints v) in
      let place : used + length g.text ≡ used + length d.text + length (prints v) = omega (arith, long) in
      record {
        text = h.text ∙ ap (λ (l : List ℕ). l ++ spelt vs) text ∙ append_assoc d.text (prints v) (spelt vs);
        rows =
            h.rows ∙ ap (λ (n : ℕ). g.rows ++ rows_for vs n) place
            ∙ ap (λ (l : List Row). l ++ rows_for vs (used + length d.text + length (prints v))) rows ∙ append_assoc d.rows (row_for v (used + length d.text) ∷ []) _;
        count = h.count ∙ omega (arith, count);
      }

  grow_said : (bytes dir : List ℕ) (n : Named) (w : Said (List Value)) → NameSaid bytes dir used g n w → NameSaid bytes dir used d n (then w (λ vs left. said (v ∷ vs) left))
  unfolding then
  grow_said bytes dir n w (refuses r) = refuses r
  grow_said bytes dir n w (makes x vs spans h l) = makes x (v ∷ vs) spans (grew_then x vs h) l

module _ (rules : Rules) (bytes dir cur : List ℕ) (e : Earlier) (used : ℕ) where
  abbrev s : Source
  s = source rules bytes dir cur

  module _ (p : ℕ) (d : Draft) (high : p ≤ 128) (o : Open bytes dir d.cur) (same : SameFrom p d.cur cur) where
    step_told : (vs : List Value) (spans : Spans) → RowsTell e p vs → Left bytes dir d.cur spans
        → StepSaid bytes dir d.cur e.text p (type_at s p) (step_at s e p) (found rules p vs spans)
    step_told vs spans r l = rw (← step_here rules bytes dir cur e used p d high o same, ← type_here rules bytes dir cur e used p d high o same) (step_said rules bytes dir d.cur e o p high vs r spans l)

    -- a token as a value
    token_printed : (t : Token) (c : Cursor) (v : Value) → shown bytes e.text t ≡ v → bytes_of bytes e.text t ≡ prints v
    token_printed t c v is = sym (shown_prints bytes e.text t) ∙ ap prints is

    token_text : (t : Token) (c : Cursor) (v : Value) → shown bytes e.text t ≡ v → (grown s e used p t c.0 d).text ≡ d.text ++ prints v
    unfolding grown
    token_text t c v is = ap (λ (l : List ℕ). d.text ++ l) (token_printed t c v is)

    token_rows : (t : Token) (c : Cursor) (v : Value) → shown bytes e.text t ≡ v → length (prints v) ≡ length_of t
        → (grown s e used p t c.0 d).rows ≡ d.rows ++ (row_for v (used + length d.text) ∷ [])
    unfolding grown
    token_rows t c v is long =
        ap (λ (r : Row). d.rows ++ (r ∷ []))
        (sym (shown_row bytes e.text t (used + length d.text) (ap (λ (x : Value). length (prints x)) is ∙ long))
        ∙ ap (λ (x : Value). row_for x (used + length d.text)) is)

    token_count : (t : Token) (c : Cursor) → (grown s e used p t c.0 d).count ≡ d.count + 1
    unfolding grown
    token_count t c = refl

    grown_left : (t : Token) (c : Cursor) (spans : Spans) → Left bytes dir (value_past (type_at s p) p c.0 (past d.cur (span_of p 0) 1)) spans
        → Left bytes dir (grown s e used p t c.0 d).cur spans
    unfolding grown
    grown_left t c spans l = l

    -- a position, and the rest
    module _ (rest : Draft → Named) (words : Value → Spans → Said (List Value))
        (on : (g : Draft) (v : Value) (spans : Spans) → length g.text ≡ length d.text + length (prints v) → Open bytes dir g.cur → SameFrom (p + 1) g.cur cur
        → Left bytes dir g.cur spans → NameSaid bytes dir used g (rest g) (words v spans)) where
      onward_said : (st : Step) (w : Said Found) → step_at s e p ≡ st → StepSaid bytes dir d.cur e.text p (type_at s p) st w
          → NameSaid bytes dir used d (names.onward s e used p d st rest) (then w (onward (length d.text) words))
      unfolding names.onward then onward printable ended spelt rows_for
      onward_said st w q (steps.refuses r) = refuses r
      onward_said st w q (steps.ends spans l) =
          pick_two (NameSaid bytes dir used d) (eqb (length d.text) 0) _ _ _ _ (λ t. refuses reason.BadName)
          (λ t. makes (ended p d) [] spans (record { text = sym (append-nil d.text); rows = sym (append-nil d.rows); count = sym (add-zero d.count) }) l)
      onward_said st w q (steps.gives t c v spans is long l) =
          rw (token_printed t c v is)
          (pick_two (NameSaid bytes dir used d) (both (all_allowed (prints v)) (leb (length d.text + length (prints v)) 254)) _ _ _ _
          (λ z. grow_said used d (grown s e used p t c.0 d) v (token_text t c v is) (token_rows t c v is long) (token_count t c) bytes dir _ _
          (on (grown s e used p t c.0 d) v spans (ap length (token_text t c v is) ∙ length-append d.text (prints v)) (grown_open rules bytes dir cur e used p d high o same t c q) (grown_same rules bytes dir cur e used p d high o same t c) (grown_left t c spans l)))
          (λ z. refuses reason.BadName))

  -- position after position
  from_said : (f p : ℕ) (d : Draft) (vs : List Value) (spans : Spans) → p + f ≤ 129 → Open bytes dir d.cur → SameFrom p d.cur cur → RowsTell e p vs → Left bytes dir d.cur spans
      → NameSaid bytes dir used d (name_from s e used f p d) (tokens_from rules f p vs (length d.text) spans)
  unfolding name_from tokens_from
  from_said zero p d vs spans h o m r l = refuses reason.NotEnd
  from_said (suc f) p d vs spans h o m r l =
      onward_said p d (omega (arith, h)) o m (name_from s e used f (p + 1)) (λ v. tokens_from rules f (p + 1) (behind vs) (length d.text + length (prints v)))
      (λ g v rest long opened same left. rw (← long) (from_said f (p + 1) g (behind vs) rest (omega (arith, h)) opened same (rows_behind e p vs r) left))
      (step_at s e p) _ refl (step_told p d (omega (arith, h)) o m vs spans r l)

  -- a whole name
  pub name_said : (c : List ℕ) (vs : List Value) (spans : Spans) → Open bytes dir c → SameFrom 1 c cur → RowsTell e 1 vs → Left bytes dir c spans
      → NameSaid bytes dir used (draft [] [] 0 c) (name_of s e used c) (tokens_from rules 128 1 vs 0 spans)
  unfolding name_of
  name_said c vs spans o m r l = from_said 128 1 (draft [] [] 0 c) vs spans (omega arith) o m r l
