-- Walks: what is left of a name's tokens, and of the names, says what all of them say.
use Prim.Native.Nat.{ℕ, ◌+◌, ◌-◌, ◌≤◌, ◌<◌}
use mathlib.Core.Path.{◌≡◌, refl, sym, ap, ◌∙◌, subst}
use mathlib.Core.List.{List, [], ◌++◌}
use native.Mathlib.Omega.{arith}
use lib.ListN.{length, drop}
use Rattle.base.specs.Memory.{part}
use Rattle.choices.specs.declared.Choice.{Choice}
use Rattle.choices.specs.declared.Choice.TheVariants.{End}
use Rattle.splitting.specs.Split.{cut_at}
use Rattle.choices.specs.Choices.{choice_at, choices_from, choices_of}
use Rattle.splitting.proofs.Runs.{cut_range, cut_before}
use Rattle.inputs.specs.Inputs.{names_after, names_of, NameAt}
use Rattle.inputs.proofs.Standing.{Standing, stand_first, stand_next, none_left}
use Rattle.pages.specs.Page.{Page, said, HasRoom}
use Rattle.texts.specs.Texts.{choice_text}
use Rattle.lines.specs.Lines.{tokens_text, line_of, lines_from, lines_of}
use Rattle.pages.proofs.Pages.{first_room, next_room, said_next, said_none}
use Rattle.lines.proofs.Laws.{tokens_more, tokens_end, lines_none, lines_more}

-- the tokens of s after r, from position p on
pub record Walking (r s : List ℕ) (w₀ w : Page) (p a b : ℕ) : Type 0 where
  pub position : a < length s → p < 128
  pub low : 1 ≤ p
  pub high : p ≤ 128
  pub within : a ≤ length s
  pub room : HasRoom (tokens_text s (choices_from r s (128 - p) p a b)) w
  pub rest : said (tokens_text s (choices_from r s (128 - p) p a b)) w ≡ said (tokens_text s (choices_of r s)) w₀

pub walk_start : (r s : List ℕ) (w : Page) → HasRoom (tokens_text s (choices_of r s)) w → Walking r s w w 1 0 0
unfolding choices_of
walk_start r s w q = record { position = λ h. omega arith; low = omega arith; high = omega arith; within = omega arith; room = q; rest = refl }

module _ (r s : List ℕ) (w₀ w : Page) (p a b : ℕ) (k : Walking r s w₀ w p a b) where
  module _ (h : a < length s) (c : Choice) (e : c ≡ choice_at r s p a b) where
    later : List ℕ
    later = tokens_text s (choices_from r s (128 - (p + 1)) (p + 1) (cut_at s p a) (cut_at r p b))

    more : tokens_text s (choices_from r s (128 - p) p a b) ≡ choice_text s c ++ later
    unfolding later
    more = tokens_more r s p a b (k.position h) h ∙ ap (λ (d : Choice). choice_text s d ++ later) (sym e)

    room_both : HasRoom (choice_text s c ++ later) w
    room_both = subst (λ (l : List ℕ). HasRoom l w) more k.room

    pub walk_room : HasRoom (choice_text s c) w
    walk_room = first_room (choice_text s c) later w room_both

    pub walk_more : {v : Page} {i j : ℕ} → v ≡ said (choice_text s c) w → i ≡ cut_at s p a → j ≡ cut_at r p b → Walking r s w₀ v (p + 1) i j
    unfolding later
    walk_more {v} {i} {j} d f g =
        let q = cut_range s a h p in
        let at : Walking r s w₀ v (p + 1) (cut_at s p a) (cut_at r p b) = record {
          position = cut_before s p a h (k.position h);
          low = omega arith;
          high = let z : p < 128 = k.position h in omega arith;
          within = q.1;
          room = next_room (choice_text s c) later w room_both d;
          rest = said_next (choice_text s c) later w room_both d refl ∙ ap (λ (l : List ℕ). said l w) (sym more) ∙ k.rest;
        } in
        subst (λ (x : ℕ). Walking r s w₀ v (p + 1) x j) (sym f) (subst (λ (x : ℕ). Walking r s w₀ v (p + 1) (cut_at s p a) x) (sym g) at)

  module _ (h : length s ≤ a) where
    last : tokens_text s (choices_from r s (128 - p) p a b) ≡ choice_text s End
    last = tokens_end r s (128 - p) p a b h

    pub walk_last : HasRoom (choice_text s End) w
    walk_last = subst (λ (l : List ℕ). HasRoom l w) last k.room

    pub walk_end : {v : Page} → v ≡ said (choice_text s End) w → v ≡ said (tokens_text s (choices_of r s)) w₀
    walk_end d = d ∙ ap (λ (l : List ℕ). said l w) (sym last) ∙ k.rest

-- the names from where a walk over them stands, and what they say
pub record Naming (input : List ℕ) (w₀ w : Page) (n : ℕ) (before : List ℕ) (start : ℕ) : Type 0 where
  pub stands : Standing input n start
  pub room : HasRoom (lines_from n before (names_after [] (drop start input))) w
  pub rest : said (lines_from n before (names_after [] (drop start input))) w ≡ said (lines_of (names_of input)) w₀

pub names_start : (input : List ℕ) (w : Page) {n : ℕ} → n ≡ 0 → HasRoom (lines_of (names_of input)) w → Naming input w w n [] 0
unfolding lines_of names_of
names_start input w {n} e q =
    let first : Naming input w w 0 [] 0 = record { stands = stand_first input; room = q; rest = refl } in
    subst (λ (m : ℕ). Naming input w w m [] 0) (sym e) first

module _ (input : List ℕ) (w₀ w : Page) (n : ℕ) (before : List ℕ) (start : ℕ) (k : Naming input w₀ w n before start) where
  module _ (end : ℕ) (e : NameAt input start end) where
    after : List ℕ
    after = lines_from (n + 1) (part input start end) (names_after [] (drop (end + 1) input))

    this : List ℕ
    this = line_of n before (part input start end)

    next : lines_from n before (names_after [] (drop start input)) ≡ this ++ after
    unfolding this after
    next = lines_more n before (names_after [] (drop start input)) (part input start end) (names_after [] (drop (end + 1) input)) e.first

    both_rooms : HasRoom (this ++ after) w
    both_rooms = subst (λ (l : List ℕ). HasRoom l w) next k.room

    pub names_room : HasRoom (line_of n before (part input start end)) w
    unfolding this
    names_room = first_room this after w both_rooms

    pub names_more : {v : Page} → v ≡ said (line_of n before (part input start end)) w → Naming input w₀ v (n + 1) (part input start end) (end + 1)
    unfolding this after
    names_more {v} d = record {
      stands = stand_next input n start k.stands end e;
      room = next_room this after w both_rooms d;
      rest = said_next this after w both_rooms d refl ∙ ap (λ (l : List ℕ). said l w) (sym next) ∙ k.rest;
    }

  pub names_end : length input ≤ start → w ≡ said (lines_of (names_of input)) w₀
  names_end h =
      let none : lines_from n before (names_after [] (drop start input)) ≡ [] = lines_none n before _ (none_left input n start k.stands h) in
      sym (said_none w) ∙ ap (λ (l : List ℕ). said l w) (sym none) ∙ k.rest
