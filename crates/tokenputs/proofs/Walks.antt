-- A walk: what is left of a name's tokens leaves what all of them leave.
use Prim.Native.Nat.{ℕ, ◌+◌, ◌-◌, ◌≤◌, ◌<◌}
use mathlib.Core.Path.{◌≡◌, refl, sym, ap, ◌∙◌, subst}
use mathlib.Core.List.{List, [], ◌∷◌, ◌++◌}
use native.Mathlib.Omega.{arith}
use lib.ListN.{length}
use Rattle.block.specs.Block.{span_of}
use Rattle.numbering.specs.declared.TokenType.TheVariants as type
use Rattle.choices.specs.declared.Choice.{Choice}
use Rattle.choices.specs.declared.Choice.TheVariants.{End}
use Rattle.splitting.specs.Split.{cut_at}
use Rattle.choices.specs.Choices.{choice_at, choices_from, choices_of}
use Rattle.splitting.proofs.Runs.{cut_range, cut_before}
use Rattle.laying.specs.declared.Pass.{Pass}
use Rattle.laying.specs.Puts.{Put, put}
use Rattle.laying.specs.Passes.{World, step_of, run_of, Room, Roomy}
use Rattle.laying.proofs.Passes.{run_append, roomy_append}
use Rattle.numbering.specs.Types.{Rules, type_number}
use Rattle.tokenputs.specs.TokenPuts.{choice_type, choice_puts, token_puts}
use Rattle.tokenputs.proofs.Laws.{choice_room, choice_ran, tokens_more, tokens_end}
use Rattle.valueputs.proofs.Laws.{end_ran}

-- the tokens of s after r, from position p on
pub record Walking (rules : Rules) (pass : Pass) (r s : List ℕ) (w₀ w : World) (p a b : ℕ) : Type 0 where
  pub position : a < length s → p < 128
  pub low : 1 ≤ p
  pub high : p ≤ 128
  pub within : a ≤ length s
  pub room : Roomy pass (token_puts rules s p (choices_from r s (128 - p) p a b)) w
  pub rest : run_of pass (token_puts rules s p (choices_from r s (128 - p) p a b)) w ≡ run_of pass (token_puts rules s 1 (choices_of r s)) w₀

pub walk_start : {rules : Rules} (pass : Pass) (r s : List ℕ) (w : World) → Roomy pass (token_puts rules s 1 (choices_of r s)) w → Walking rules pass r s w w 1 0 0
unfolding choices_of
walk_start pass r s w q = record { position = λ h. omega arith; low = omega arith; high = omega arith; within = omega arith; room = q; rest = refl }

module _ {rules : Rules} (pass : Pass) (r s : List ℕ) (w₀ w : World) (p a b : ℕ) (k : Walking rules pass r s w₀ w p a b) where
  module _ (h : a < length s) (c : Choice) (e : c ≡ choice_at r s p a b) where
    later : List Put
    later = token_puts rules s (p + 1) (choices_from r s (128 - (p + 1)) (p + 1) (cut_at s p a) (cut_at r p b))

    more : token_puts rules s p (choices_from r s (128 - p) p a b) ≡ choice_puts rules s p c ++ later
    unfolding later
    more = tokens_more rules r s p a b (k.position h) h ∙ ap (λ (d : Choice). choice_puts rules s p d ++ later) (sym e)

    rooms : Roomy pass (choice_puts rules s p c) w × Roomy pass later (run_of pass (choice_puts rules s p c) w)
    rooms = roomy_append pass (choice_puts rules s p c) later w (subst (λ (l : List Put). Roomy pass l w) more k.room)

    pub walk_room : Roomy pass (choice_puts rules s p c) w
    walk_room = rooms.0

    pub walk_more : {v : World} {i j : ℕ} → v ≡ run_of pass (choice_puts rules s p c) w → i ≡ cut_at s p a → j ≡ cut_at r p b → Walking rules pass r s w₀ v (p + 1) i j
    unfolding later
    walk_more {v} {i} {j} d f g =
        let q = cut_range s a h p in
        let at : Walking rules pass r s w₀ v (p + 1) (cut_at s p a) (cut_at r p b) = record {
          position = cut_before s p a h (k.position h);
          low = omega arith;
          high = let z : p < 128 = k.position h in omega arith;
          within = q.1;
          room = subst (Roomy pass later) (sym d) rooms.1;
          rest = ap (run_of pass later) d ∙ sym (run_append pass (choice_puts rules s p c) later w) ∙ ap (λ (l : List Put). run_of pass l w) (sym more) ∙ k.rest;
        } in
        subst (λ (x : ℕ). Walking rules pass r s w₀ v (p + 1) x j) (sym f) (subst (λ (x : ℕ). Walking rules pass r s w₀ v (p + 1) (cut_at s p a) x) (sym g) at)

  module _ (h : length s ≤ a) where
    last : token_puts rules s p (choices_from r s (128 - p) p a b) ≡ choice_puts rules s p End
    last = tokens_end rules r s (128 - p) p a b h

    pub walk_last : Room pass (span_of p 0) 1 w
    walk_last = (choice_room rules pass s p End w (subst (λ (l : List Put). Roomy pass l w) last k.room)).0

    pub walk_end : {v : World} {n : ℕ} → n ≡ type_number rules.numbers type.End → v ≡ step_of pass (put (span_of p 0) (n ∷ [])) w → v ≡ run_of pass (token_puts rules s 1 (choices_of r s)) w₀
    unfolding choice_type
    walk_end {v} {n} e d =
        choice_ran rules pass s p End w v v (d ∙ ap (λ (n : ℕ). step_of pass (put (span_of p 0) (n ∷ [])) w) e) (end_ran pass s p End v refl)
        ∙ ap (λ (l : List Put). run_of pass l w) (sym last)
        ∙ k.rest
