-- A walk: what is left of the names leaves what all of them leave.
use Prim.Native.Nat.{ℕ, ◌+◌, ◌≤◌}
use mathlib.Core.Path.{◌≡◌, refl, sym, ap, ◌∙◌, subst}
use mathlib.Core.List.{List, [], ◌++◌}
use lib.ListN.{length, drop}
use Rattle.base.specs.Memory.{part}
use Rattle.numbering.specs.Types.{Rules}
use Rattle.laying.specs.declared.Pass.{Pass}
use Rattle.laying.specs.Puts.{Put}
use Rattle.laying.specs.Passes.{World, run_of, Roomy}
use Rattle.laying.proofs.Passes.{run_none, run_append, roomy_append}
use Rattle.inputs.specs.Inputs.{names_after, names_of, NameAt}
use Rattle.nameputs.specs.NamePuts.{name_puts, puts_from, puts_of}
use Rattle.nameputs.proofs.Laws.{puts_none, puts_more}
use Rattle.inputs.proofs.Standing.{Standing, stand_first, stand_next, none_left}

-- the names from there on, and what they leave
pub record Naming (rules : Rules) (pass : Pass) (input : List ℕ) (w₀ w : World) (n : ℕ) (before : List ℕ) (start : ℕ) : Type 0 where
  pub stands : Standing input n start
  pub room : Roomy pass (puts_from rules n before (names_after [] (drop start input))) w
  pub rest : run_of pass (puts_from rules n before (names_after [] (drop start input))) w ≡ run_of pass (puts_of rules (names_of input)) w₀

pub names_start : {rules : Rules} (pass : Pass) (input : List ℕ) (w : World) → Roomy pass (puts_of rules (names_of input)) w → Naming rules pass input w w 0 [] 0
unfolding puts_of names_of
names_start {rules = rules} pass input w q = record {
  stands = stand_first input;
  room = q;
  rest = refl;
}

module _ {rules : Rules} (pass : Pass) (input : List ℕ) (w₀ w : World) (n : ℕ) (before : List ℕ) (start : ℕ) (k : Naming rules pass input w₀ w n before start) where
  module _ (end : ℕ) (e : NameAt input start end) where
    after : List Put
    after = puts_from rules (n + 1) (part input start end) (names_after [] (drop (end + 1) input))

    this : List Put
    this = name_puts rules n before (part input start end)

    next : puts_from rules n before (names_after [] (drop start input)) ≡ this ++ after
    unfolding this after
    next = puts_more rules n before (names_after [] (drop start input)) (part input start end) (names_after [] (drop (end + 1) input)) e.first

    both_rooms : Roomy pass this w × Roomy pass after (run_of pass this w)
    both_rooms = roomy_append pass this after w (subst (λ (l : List Put). Roomy pass l w) next k.room)

    pub names_room : Roomy pass (name_puts rules n before (part input start end)) w
    unfolding this
    names_room = both_rooms.0

    pub names_more : {v : World} → v ≡ run_of pass (name_puts rules n before (part input start end)) w → Naming rules pass input w₀ v (n + 1) (part input start end) (end + 1)
    unfolding this after
    names_more {v} d = record {
      stands = stand_next input n start k.stands end e;
      room = subst (Roomy pass after) (sym d) both_rooms.1;
      rest = ap (run_of pass after) d ∙ sym (run_append pass this after w) ∙ ap (λ (l : List Put). run_of pass l w) (sym next) ∙ k.rest;
    }

  pub names_end : length input ≤ start → w ≡ run_of pass (puts_of rules (names_of input)) w₀
  names_end h =
      let none : puts_from rules n before (names_after [] (drop start input)) ≡ [] = puts_none rules n before _ (none_left input n start k.stands h) in
      sym (run_none pass w) ∙ ap (λ (l : List Put). run_of pass l w) (sym none) ∙ k.rest
