-- The request's example.
use Prim.Native.Nat.{ℕ}
use Rattle.std.specs.Prelude.{None, Ok}
use mathlib.Core.Path.{◌≡◌, refl, ◌∙◌}
use mathlib.Core.Bool.{true}
use native.Mathlib.Omega.{arith}
use Rattle.base.specs.Choice.{pick}
use Rattle.base.specs.Memory.{part, written}
use Rattle.base.specs.Every.{every}
use Rattle.classes.specs.Classes.{is_allowed}
use Rattle.spans.specs.Spans.{byte_at, four, four_at, four_bytes}
use Rattle.block.specs.Block.{span_of, end_of, cursor_of, state}
use Rattle.numbering.specs.Types.{numbers_of, type_of, type_number}
use Rattle.tokens.specs.Tokens.{bytes_of, kind_of, number_of, width_of, length_of, row_of}
use Rattle.tables.specs.Tables.{room, row_room, put_rows, all_numbers}
use Rattle.sources.specs.Source.{byte_in, four_in}
use Rattle.values.specs.Values.{char_step}
use Rattle.steps.specs.Steps.{value_step, typed_step, step_at}
use Rattle.bars.specs.Bars.{carries, barred}
use Rattle.moving.specs.Moves.{past, value_past}
use Rattle.names.specs.Names.{type_in, grown, ended, printable, onward, name_from, name_of}
use Rattle.outcomes.specs.Outcomes.{outcome, at_name}
use Rattle.outcomes.specs.Keeping.{room_for, kept, keep_of}
use Rattle.distances.specs.Distances.{diff_head}
use Rattle.heads.specs.Heads.{typed_head, head_of, head_past}
use Rattle.earlier.specs.Back.{none}
use Rattle.naming.specs.Naming.{named_of, diff_of}
use Rattle.inner.specs.Next.{headed_of, next_of}
use Rattle.demands.specs.Runs.{Lent, lent, left}
use Rattle.demands.specs.Cases.{Hold, empty, Told, told, type_bytes, bytes_in, dir_from, in_directory}
use Rattle.demands.proofs.Lemmas.Blocks.{cur_from, end_from, nexts, quick, over, over_done}
use Rattle.moreroom.specs.Cases.{three_names, third, fourth, room_cases}

at : (text names rows : ℕ) (said : Told) → in_directory three_names ≡ true → quick (record { text = text; names = names; rows = rows }) 3 2 three_names ≡ said → third text names rows ≡ said
at text names rows said ok e = over (record { text = text; names = names; rows = rows }) 2 three_names (omega arith) ok ∙ e

abbrev three : ℕ → ℕ → ℕ → Lent
three text names rows = nexts (bytes_in three_names) (dir_from 0 three_names) 3 (lent (cur_from 0 three_names) (empty (record { text = text; names = names; rows = rows }) (state 3 0 0 0)))

after_three : (text names rows : ℕ) (said : Told) → in_directory three_names ≡ true → (three text names rows).kept.state.names ≡ (three text names rows).kept.state.count
    → (three text names rows).cur ≡ end_from 0 three_names → told (outcome (Ok None) (three text names rows).cur (three text names rows).kept) ≡ said → fourth text names rows ≡ said
after_three text names rows said ok k c e = over_done (record { text = text; names = names; rows = rows }) 3 three_names (omega arith) ok (three text names rows) refl k c ∙ e

pub example_holds : Hold room_cases
unfolding pick part written every is_allowed byte_at four four_at four_bytes span_of end_of cursor_of numbers_of type_of type_number bytes_of kind_of number_of width_of length_of row_of room row_room put_rows all_numbers byte_in four_in char_step value_step carries barred typed_step step_at past type_in value_past grown ended printable onward name_from name_of at_name diff_head typed_head head_of room_for kept keep_of head_past named_of diff_of none headed_of next_of told quick nexts left type_bytes bytes_in dir_from cur_from end_from in_directory
example_holds = (
  λ i. (at 5 15 15 _ refl refl i, at 6 10 15 _ refl refl i, at 6 15 10 _ refl refl i),
  (λ i. (at 6 14 15 _ refl refl i, at 6 15 14 _ refl refl i), (at 6 15 15 _ refl refl, (after_three 6 15 15 _ refl refl refl refl, tt))),
)
