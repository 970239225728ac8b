-- DUP and DIFF, with the earlier name judged.
use Rattle.std.specs.Prelude.{ℕ, ◌-◌, eqb}
use Rattle.refusals.specs.declared.Reason.TheVariants as reason
use Rattle.base.specs.Choice.{pick}
use Rattle.tables.specs.Tables.{Kept}
use Rattle.kept.specs.Judgement.{earlier_fits}
use Rattle.sources.specs.Source.{Source}
use Rattle.earlier.specs.Back.{rows_of, none, entry_back}
use Rattle.outcomes.specs.Outcomes.{Outcome, at_name}
use Rattle.naming.specs.Naming.{diff_of}
use Rattle.copying.specs.Copies.{dup_of}

-- 13 for the earlier name's entry and all its rows, for DUP too, comes after 4
abbrev pub dup_judged : Source → Kept → ℕ → Outcome
dup_judged s m d = pick (earlier_fits m (m.state.names - d)) (dup_of s m d (entry_back m d)) (at_name s m reason.Outside)

abbrev pub diff_judged : Source → Kept → ℕ → Outcome
diff_judged s m d =
    pick (eqb d 0) (diff_of s m 0 (none m))
    (pick (earlier_fits m (m.state.names - d)) (diff_of s m d (rows_of m (entry_back m d))) (at_name s m reason.Outside))
