-- One name read back: position by position its tokens come out, its text is the name, and its rows are those of its split.
use Prim.Native.Nat.{ℕ, zero, suc, ◌+◌, ◌-◌, ◌*◌, ◌≤◌, ◌<◌}
use Rattle.values.specs.Values.{Step}
use Rattle.std.specs.Prelude.{Some, None, Ok}
use mathlib.Core.Path.{◌≡◌, refl, sym, ap, ◌∙◌, subst}
use mathlib.Core.Bool.{true}
use mathlib.Core.Logic.{⊎_elim}
use mathlib.Core.List.{List, [], ◌∷◌, ◌++◌, append_assoc, append-nil}
use native.Mathlib.Omega.{arith}
use borrow.Author.Tests.{le-leb, ne_eqb, lt-ltb, le-ltb}
use lib.ListN.{length, take}
use lib.Seq.{take-length, length-take-le}
use Rattle.base.specs.Memory.{part}
use Rattle.base.proofs.Choice.{pick_true, pick_false, both_of}
use Rattle.base.proofs.Lists.{take_part}
use Rattle.base.proofs.Memory.{length_part, get_d_part}
use Rattle.base.proofs.Numbers.{lt_or_ge}
use Rattle.base.proofs.Every.{every_at, every_of}
use Rattle.base.proofs.Holding.{Holds, holds_inner}
use Rattle.classes.specs.Classes.{is_allowed, all_allowed}
use Rattle.block.specs.Block.{span_of, cursor_of}
use Rattle.tokens.specs.declared.Token.{Token}
use Rattle.tokens.specs.Tokens.{bytes_of}
use Rattle.tables.specs.declared.Row.{Row}
use Rattle.tables.proofs.Rows.{RowsHold, hold_none, hold_first, hold_rest}
use Rattle.sources.specs.Source.{Source, source, Earlier}
use Rattle.repeats.specs.Repeats.{has_row, row_here}
use Rattle.steps.specs.Steps.{step_at}
use Rattle.steps.proofs.Frame.{step_cursors, byte_in_same}
use Rattle.names.specs.Names.{Draft, draft, Named, named, grown, ended, printable, onward, name_from, name_of}
use Rattle.laying.specs.Puts.{Put}
use Rattle.choices.specs.declared.Choice.{Choice}
use Rattle.choices.specs.declared.Choice.TheVariants.{End}
use Rattle.splitting.specs.Split.{cut_at}
use Rattle.pieces.specs.Pieces.{piece_at}
use Rattle.choices.specs.Choices.{choice_at, choices_from, choices_of}
use Rattle.splitting.proofs.Runs.{cut_range, cut_out, cut_before}
use Rattle.tokenputs.specs.TokenPuts.{choice_puts, token_puts}
use Rattle.roundtrip.specs.Rows.{piece_bytes, piece_kind, piece_number, piece_width, piece_row, rows_from, count_from, split_rows, tokens_in}
use Rattle.roundtrip.proofs.Eating.{Left, eaten, left_eaten, eaten_later}
use Rattle.roundtrip.proofs.Pieces.{piece_cut, rows_more, rows_out, count_more, count_out, count_most, length_rows}
use Rattle.roundtrip.proofs.Leaning.{RowIs, Here, choice_right}
use Rattle.roundtrip.proofs.Stepping.{choice_between, Resolved, resolved, ended_back, ended_past}
use Rattle.numbering.specs.Types.{Rules}

-- what SAM allows as a name, as facts
pub record Good (s : List ℕ) : Type 0 where
  pub some : 1 ≤ length s
  pub short : length s ≤ 254
  pub allowed : all_allowed s ≡ true

-- the rows of an earlier name are those of r's split, r's text standing at `origin`: from position p on, where a token of r begins at b
pub record RowsAt (e : Earlier) (origin : ℕ) (r : List ℕ) (f p b : ℕ) : Type 0 where
  pub rows : RowsHold e.rows (e.first + (p - 1)) (rows_from r origin f p b)
  pub many : b < length r → e.count ≡ p - 1 + count_from r f p b

module _ (e : Earlier) (origin : ℕ) (r : List ℕ) (allowed : all_allowed r ≡ true) (text : Holds e.text origin r) (f p b : ℕ) (low : 1 ≤ p) (at : RowsAt e origin r (suc f) p b) where
  both_rows : b < length r → RowsHold e.rows (e.first + (p - 1)) (piece_row r (piece_at r p b) (origin + b) ∷ rows_from r origin f (p + 1) (cut_at r p b))
  both_rows h = subst (RowsHold e.rows (e.first + (p - 1))) (rows_more r f p b origin h) at.rows

  abbrev here : Row
  here =
      let x = piece_at r p b in
      record { kind = piece_kind x; number = piece_number x; width = piece_width x; start = origin + b; length = length (piece_bytes r x) }

  row_there : b < length r → row_here e p ≡ here
  unfolding row_here piece_row
  row_there h =
      hold_first e.rows (e.first + (p - 1)) here (rows_from r origin f (p + 1) (cut_at r p b)) (both_rows h)

  row_start : b < length r → (row_here e p).start ≡ origin + b
  row_start h = ap (λ (x : Row). x.start) (row_there h)

  row_is : b < length r → RowIs e.text (row_here e p) r (piece_at r p b)
  row_is h =
      let c = cut_range r b h p in
      let inner : Holds e.text (origin + b) (part r b (cut_at r p b)) = holds_inner e.text origin r b (cut_at r p b) (omega arith) c.1 text in
      record {
        kind = ap (λ (x : Row). x.kind) (row_there h);
        number = ap (λ (x : Row). x.number) (row_there h);
        width = ap (λ (x : Row). x.width) (row_there h);
        length = ap (λ (x : Row). x.length) (row_there h);
        holds = rw (row_start h, (piece_cut r allowed b h p).bytes) inner;
      }

  pub rows_here : b < length r → Here e p r b
  unfolding has_row
  rows_here h = record { has = le-leb p e.count (omega (arith, at.many h, count_more r f p b h)); row = row_is h }

  next_in : b < length r → RowsAt e origin r f (p + 1) (cut_at r p b)
  next_in h =
      let i : ℕ = e.first + (p - 1) in
      let row : Row = piece_row r (piece_at r p b) (origin + b) in
      let n : i + 1 ≡ e.first + (p + 1 - 1) = omega arith in
      record {
        rows = subst (λ (k : ℕ). RowsHold e.rows k (rows_from r origin f (p + 1) (cut_at r p b))) n (hold_rest e.rows i row (rows_from r origin f (p + 1) (cut_at r p b)) (both_rows h));
        many = λ g. omega (arith, at.many h, count_more r f p b h);
      }

  next_out : length r ≤ b → RowsAt e origin r f (p + 1) (cut_at r p b)
  next_out h =
      let q : cut_at r p b ≡ b = cut_out r p b h in
      record {
        rows = rw (rows_out r f (p + 1) (cut_at r p b) origin (omega arith)) (hold_none e.rows _);
        many = λ g. absurd (omega arith);
      }

  pub rows_next : RowsAt e origin r f (p + 1) (cut_at r p b)
  rows_next = ⊎_elim next_in next_out (lt_or_ge b (length r))

-- a name read back from position p on, where its token begins at a
pub record Spelt (bytes dir : List ℕ) (s : List ℕ) (used f p a : ℕ) (d : Draft) (rest : List Put) (n : Named) : Type 0 where
  pub draft : Draft
  pub is : n ≡ named draft
  pub text : draft.text ≡ s
  pub rows : draft.rows ≡ d.rows ++ rows_from s used f p a
  pub count : draft.count ≡ d.count + count_from s f p a
  pub left : Left bytes dir draft.cur rest

part_allowed : (s : List ℕ) (from to : ℕ) → from ≤ to → to ≤ length s → all_allowed s ≡ true → all_allowed (part s from to) ≡ true
part_allowed s from to h k e =
    every_of is_allowed (part s from to)
    (λ i l.
    let n : length (part s from to) ≡ to - from = length_part s from to h k in
    ap is_allowed (get_d_part s from to i (omega arith)) ∙ every_at is_allowed s e (from + i) (omega arith))

module _ (rules : Rules) (bytes dir cur : List ℕ) (e : Earlier) (used origin : ℕ) (r s : List ℕ) (earlier-allowed : all_allowed r ≡ true) (good : Good s)
    (text : Holds e.text origin r) (rest : List Put) where
  abbrev src : Source
  src = source rules bytes dir cur

  -- cursors that are those of the source from position p on
  abbrev Ahead : ℕ → List ℕ → Type 0
  Ahead p now = (j : ℕ) → 10 * p ≤ j → cursor_of now j ≡ cursor_of cur j

  here_same : (p : ℕ) (now : List ℕ) → Ahead p now → (i : ℕ) → i ≤ 9 → cursor_of cur (span_of p i) ≡ cursor_of now (span_of p i)
  unfolding span_of
  here_same p now h i l = sym (h (10 * p + i) (omega arith))

  -- with nothing left of the name, END
  end_spelt : (f n p a : ℕ) (d : Draft) → p ≤ 128 → a ≡ length s → d.text ≡ take a s → Ahead p d.cur
      → Left bytes dir d.cur (token_puts rules s p (End ∷ []) ++ rest) → Spelt bytes dir s used n p a d rest (name_from src e used (suc f) p d)
  unfolding name_from onward ended token_puts
  end_spelt f n p a d h q t ahead l =
      let own : Left bytes dir d.cur (choice_puts rules s p End ++ rest) = subst (λ (ps : List Put). Left bytes dir d.cur (ps ++ rest)) (append-nil (choice_puts rules s p End)) l in
      let all : d.text ≡ s = t ∙ ap (λ (k : ℕ). take k s) q ∙ take-length s in
      let z : step_at src e p ≡ Ok None =
      step_cursors rules bytes dir cur d.cur p (here_same p d.cur ahead) e ∙ ended_back rules bytes dir d.cur e p s rest h own in
      let m : length d.text ≡ length s = ap length all in
      record {
        draft = ended p d;
        is =
            ap (λ (st : Step). onward src e used p d st (name_from src e used f (p + 1))) z
            ∙ pick_false _ _ (ne_eqb (length d.text) 0 (λ w. omega (arith, good.some)));
        text = all;
        rows = sym (ap (λ (l : List Row). d.rows ++ l) (rows_out s n p a used (omega arith)) ∙ append-nil d.rows);
        count = omega (arith, count_out s n p a (omega arith));
        left = ended_past rules bytes dir d.cur p s rest h own;
      }

  choices_more : (f p a b : ℕ) → a < length s → choices_from r s (suc f) p a b ≡ choice_at r s p a b ∷ choices_from r s f (p + 1) (cut_at s p a) (cut_at r p b)
  unfolding choices_from
  choices_more f p a b h = pick_true _ _ (lt-ltb _ _ h)

  choices_out : (f p a b : ℕ) → length s ≤ a → choices_from r s f p a b ≡ End ∷ []
  unfolding choices_from
  choices_out zero p a b h = refl
  choices_out (suc f) p a b h = pick_false _ _ (le-ltb _ _ h)

  -- one token more
  module _ (f p a b : ℕ) (d : Draft) (low : 1 ≤ p) (high : p < 128) (h : a < length s) (t : d.text ≡ take a s) (ahead : Ahead p d.cur)
      (at : RowsAt e origin r (suc f) p b)
      (l : Left bytes dir d.cur (token_puts rules s p (choices_from r s (suc f) p a b) ++ rest)) where
    abbrev c : ℕ
    c = cut_at s p a

    abbrev chosen : Choice
    chosen = choice_at r s p a b

    abbrev later : List Put
    later = token_puts rules s (p + 1) (choices_from r s f (p + 1) (cut_at s p a) (cut_at r p b)) ++ rest

    now_left : Left bytes dir d.cur (choice_puts rules s p chosen ++ later)
    unfolding token_puts
    now_left =
        subst (λ (ps : List Put). Left bytes dir d.cur ps) (append_assoc (choice_puts rules s p chosen) (token_puts rules s (p + 1) (choices_from r s f (p + 1) (cut_at s p a) (cut_at r p b))) rest)
        (subst (λ (cs : List Choice). Left bytes dir d.cur (token_puts rules s p cs ++ rest)) (choices_more f p a b h) l)

    token_back : Resolved rules bytes dir d.cur e p s (piece_at s p a) chosen
    token_back =
        resolved rules bytes dir d.cur e p s chosen later (omega arith) now_left (piece_at s p a) low high (piece_cut s good.allowed a h p).small
        (choice_right e p s r a b (rows_here e origin r earlier-allowed text f p b low at))

    abbrev got : Token
    got = token_back.token

    gives : step_at src e p ≡ Ok (Some (got, token_back.next))
    gives = step_cursors rules bytes dir cur d.cur p (here_same p d.cur ahead) e ∙ token_back.gives

    prints : bytes_of bytes e.text got ≡ part s a c
    prints = token_back.same.prints ∙ (piece_cut s good.allowed a h p).bytes

    a_length : length d.text ≡ a
    a_length = ap length t ∙ length-take-le a s (omega arith)

    fine : printable (bytes_of bytes e.text got) (length d.text) ≡ true
    unfolding printable
    fine =
        let range = cut_range s a h p in
        let n : length (part s a c) ≡ c - a = length_part s a c (omega arith) range.1 in
        rw prints (both_of (part_allowed s a c (omega arith) range.1 good.allowed) (le-leb (length d.text + length (part s a c)) 254 (omega (arith, a_length, good.short))))

    -- the name with this token
    abbrev more : Draft
    more = grown src e used p got token_back.next.0 d

    more_text : more.text ≡ take c s
    unfolding grown
    more_text =
        let range = cut_range s a h p in
        ap (λ (x : List ℕ). x ++ bytes_of bytes e.text got) t ∙ ap (λ (x : List ℕ). take a s ++ x) prints ∙ take_part s a c (omega arith)

    more_rows : more.rows ≡ d.rows ++ (piece_row s (piece_at s p a) (used + a) ∷ [])
    unfolding grown
    more_rows = ap (λ (x : Row). d.rows ++ (x ∷ [])) (token_back.same.row (used + length d.text) ∙ ap (λ (n : ℕ). piece_row s (piece_at s p a) (used + n)) a_length)

    more_count : more.count ≡ d.count + 1
    unfolding grown
    more_count = refl

    more_cur : more.cur ≡ eaten d.cur (choice_puts rules s p chosen)
    unfolding grown
    more_cur =
        rw (byte_in_same rules bytes dir cur d.cur p (here_same p d.cur ahead) 0 (omega arith)) token_back.moved

    more_left : Left bytes dir more.cur later
    more_left = rw more_cur (left_eaten bytes dir d.cur p (p + 1) (choice_puts rules s p chosen) later (omega arith) (choice_between rules s p chosen) now_left)

    more_ahead : Ahead (p + 1) more.cur
    more_ahead j k =
        ap (λ (x : List ℕ). cursor_of x j) more_cur ∙ eaten_later d.cur p (p + 1) (choice_puts rules s p chosen) (choice_between rules s p chosen) j k ∙ ahead j (omega arith)

    onward_more : name_from src e used (suc (suc f)) p d ≡ name_from src e used (suc f) (p + 1) more
    unfolding name_from onward
    onward_more =
        ap (λ (st : Step). onward src e used p d st (name_from src e used (suc f) (p + 1))) gives
        ∙ pick_true _ _ fine

    more_spelt : Spelt bytes dir s used f (p + 1) c more rest (name_from src e used (suc f) (p + 1) more)
        → Spelt bytes dir s used (suc f) p a d rest (name_from src e used (suc (suc f)) p d)
    more_spelt g =
        record {
          draft = g.draft;
          is = onward_more ∙ g.is;
          text = g.text;
          rows =
              g.rows ∙ ap (λ (x : List Row). x ++ rows_from s used f (p + 1) c) more_rows
              ∙ append_assoc d.rows (piece_row s (piece_at s p a) (used + a) ∷ []) (rows_from s used f (p + 1) c)
              ∙ ap (λ (x : List Row). d.rows ++ x) (sym (rows_more s f p a used h));
          count = omega (arith, g.count, more_count, count_more s f p a h);
          left = g.left;
        }

  pub spelt : (f p a b : ℕ) (d : Draft) → p + f ≡ 128 → 1 ≤ p → a ≤ length s → (a < length s → 1 ≤ f) → d.text ≡ take a s → Ahead p d.cur
      → RowsAt e origin r f p b → Left bytes dir d.cur (token_puts rules s p (choices_from r s f p a b) ++ rest)
      → Spelt bytes dir s used f p a d rest (name_from src e used (suc f) p d)
  spelt zero p a b d q low h k t ahead at l =
      let out : length s ≤ a = ⊎_elim (λ (g : a < length s). absurd (omega (arith, k g))) (λ g. g) (lt_or_ge a (length s)) in
      end_spelt 0 0 p a d (omega arith) (omega arith) t ahead (subst (λ (cs : List Choice). Left bytes dir d.cur (token_puts rules s p cs ++ rest)) (choices_out 0 p a b out) l)
  spelt (suc f) p a b d q low h k t ahead at l =
      ⊎_elim
      (λ (g : a < length s).
      let c = cut_range s a g p in
      more_spelt f p a b d low (omega arith) g t ahead at l
      (spelt f (p + 1) (cut_at s p a) (cut_at r p b) (more f p a b d low (omega arith) g t ahead at l) (omega arith) (omega arith) c.1
      (λ w. let v = cut_before s p a g (omega arith) w in omega arith)
      (more_text f p a b d low (omega arith) g t ahead at l)
      (more_ahead f p a b d low (omega arith) g t ahead at l)
      (rows_next e origin r earlier-allowed text f p b low at)
      (more_left f p a b d low (omega arith) g t ahead at l)))
      (λ (g : length s ≤ a).
      end_spelt (suc f) (suc f) p a d (omega arith) (omega arith) t ahead
      (subst (λ (cs : List Choice). Left bytes dir d.cur (token_puts rules s p cs ++ rest)) (choices_out (suc f) p a b g) l))
      (lt_or_ge a (length s))

-- the rows of an earlier name are those of r's split; r's text, where they point, stands below `used`
pub record RowsOf (e : Earlier) (used : ℕ) (r : List ℕ) : Type 0 where
  pub origin : ℕ
  pub text : Holds e.text origin r
  pub below : origin + length r ≤ used
  pub rows : RowsHold e.rows e.first (split_rows r origin)
  pub many : e.count ≡ tokens_in r

pub rows_at : (e : Earlier) (used : ℕ) (r : List ℕ) (o : RowsOf e used r) → RowsAt e o.origin r 127 1 0
unfolding split_rows tokens_in
rows_at e used r o =
    let n : e.first ≡ e.first + (1 - 1) = omega arith in
    record { rows = subst (λ (k : ℕ). RowsHold e.rows k (split_rows r o.origin)) n o.rows; many = λ h. omega (arith, o.many) }

-- a name read back, after an earlier one that is r
pub name_back_law : (rules : Rules) (bytes dir cur now : List ℕ) (e : Earlier) (used : ℕ) (r s : List ℕ) (rest : List Put) → all_allowed r ≡ true → Good s → RowsOf e used r
    → ((j : ℕ) → 10 ≤ j → cursor_of now j ≡ cursor_of cur j) → Left bytes dir now (token_puts rules s 1 (choices_of r s) ++ rest)
    → Spelt bytes dir s used 127 1 0 (draft [] [] 0 now) rest (name_of (source rules bytes dir cur) e used now)
unfolding name_of choices_of
name_back_law rules bytes dir cur now e used r s rest allowed good o ahead l =
    spelt rules bytes dir cur e used o.origin r s allowed good o.text rest 127 1 0 0 (draft [] [] 0 now)
    refl (omega arith) (omega arith) (λ h. omega arith) refl (λ j h. ahead j (omega arith)) (rows_at e used r o) l

pub tokens_most : (r : List ℕ) → tokens_in r ≤ 127
unfolding tokens_in
tokens_most r = count_most r 127 1 0

pub length_split : (r : List ℕ) (at : ℕ) → length (split_rows r at) ≡ tokens_in r
unfolding split_rows tokens_in
length_split r at = length_rows r at 127 1 0
