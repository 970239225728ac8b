-- The bench cases marked P, as one list under one statement; and outside it, each with a statement of its own, the slip that a case shows and blocks in which later names start afresh (C-11).
use Prim.Native.Nat.{ℕ, ◌+◌, ◌<◌}
use mathlib.Core.Path.{◌≡◌, refl, ◌∙◌}
use mathlib.Core.Bool.{true}
use mathlib.Core.List.{List, [], ◌∷◌, ◌++◌}
use native.Mathlib.Omega.{arith}
use Rattle.refusals.specs.declared.Reason.TheVariants as reason
use Rattle.base.specs.Choice.{pick}
use Rattle.base.specs.Memory.{part, written}
use Rattle.comparing.specs.Same.{same}
use Rattle.base.specs.Every.{every, numbers}
use Rattle.digits.specs.Digits.{low, padded, count_within, digit_count, printed, fits_width, is_digit, value_from, value_of}
use Rattle.classes.specs.Classes.{is_allowed, is_letter, class_of}
use Rattle.spans.specs.Spans.{byte_at, four, four_at, four_bytes, zero_from, text_end, text_at}
use Rattle.block.specs.Block.{span_of, start_of, end_of, cursor_of}
use Rattle.numbering.specs.declared.TokenType.TheVariants.{Match}
use Rattle.numbering.specs.Types.{numbers_of, type_of, type_number}
use Rattle.tokens.specs.Tokens.{bytes_of, kind_of, number_of, width_of, length_of, row_of}
use Rattle.tables.specs.Tables.{room, entry_at, row_at, row_room, put_rows, all_numbers}
use Rattle.kept.specs.Judgement.{entry_text, entry_rows, row_kind, row_fits, rows_fit, earlier_fits}
use Rattle.sources.specs.Source.{byte_in, four_in, text_in}
use Rattle.values.specs.Values.{string_step, char_step, digits_step, with_width, padded_of, padded_step, digits0_step}
use Rattle.sums.specs.Sums.{delta_step, delta0_step}
use Rattle.repeats.specs.Repeats.{token_of, has_row, row_here, has_kind, delta_at, delta0_at, match_at}
use Rattle.steps.specs.Steps.{value_step, typed_step, step_at}
use Rattle.bars.specs.Bars.{carries, barred}
use Rattle.moving.specs.Moves.{past, value_past}
use Rattle.names.specs.Names.{type_in, grown, ended, printable, onward, name_from, name_of}
use Rattle.outcomes.specs.Outcomes.{at_name}
use Rattle.distances.specs.Distances.{dup_head, diff_head}
use Rattle.heads.specs.Heads.{typed_head, head_of, head_past}
use Rattle.outcomes.specs.Keeping.{room_for, kept, keep_of}
use Rattle.copying.specs.Copies.{dup_of}
use Rattle.naming.specs.Naming.{named_of, diff_of}
use Rattle.earlier.specs.Back.{rows_of, none, entry_back}
use Rattle.inner.specs.Next.{headed_of, next_of}
use Rattle.splitting.specs.Split.{run_end, run_limit, run_at, cut_at}
use Rattle.pieces.specs.Pieces.{text_piece, number_piece, piece_at}
use Rattle.rises.specs.Rises.{rise_of}
use Rattle.choices.specs.Choices.{by_rise, lean_digits, lean, choice_at, choices_from, choices_of}
use Rattle.references.specs.References.{anew, reference_of, leans_on}
use Rattle.laying.specs.Puts as laying
use Rattle.inputs.specs.Inputs as inputs
use Rattle.valueputs.specs.ValuePuts.{piece_puts, value_puts}
use Rattle.tokenputs.specs.TokenPuts.{piece_type, choice_type, choice_puts, token_puts}
use Rattle.nameputs.specs.NamePuts.{head_puts, reference_puts, name_puts, puts_from, puts_of}
use Rattle.writing.specs.Writes.{countable, laid_of, judged_of, write_of}
use Rattle.demands.specs.Bench.{refused_at, small, read_over, alone, cases, token_cases, block_cases, writing_cases, slip_cases}
use Rattle.demands.specs.AfreshCases.{wider, afresh_cases}
use Rattle.demands.specs.Runs.{left}
use Rattle.demands.specs.Cases.{Case, Hold, Stream, type_bytes, bytes_in, dir_from, in_directory, Buffers, Told, told, read_in, streams_in, wrote_in, write_in}
use Rattle.demands.proofs.Lemmas.Blocks.{cur_from, nexts, quick, over}

-- a read over a small block, by what it computes to
block : (room : Buffers) (n : ℕ) (xs : List Stream) (said : Told) → n < 65536 → in_directory xs ≡ true → quick room (n + 1) n xs ≡ said → read_in room n xs ≡ said
block room n xs said h ok e = over room n xs h ok ∙ e

-- the first read, the second and the fourth
first : (xs : List Stream) (said : Told) → in_directory xs ≡ true → quick small 1 0 xs ≡ said → read_over 0 xs ≡ said
first xs said ok e = block small 0 xs said (omega arith) ok e

second : (xs : List Stream) (said : Told) → in_directory xs ≡ true → quick small 2 1 xs ≡ said → read_over 1 xs ≡ said
second xs said ok e = block small 1 xs said (omega arith) ok e

fourth : (xs : List Stream) (said : Told) → in_directory xs ≡ true → quick small 4 3 xs ≡ said → read_over 3 xs ≡ said
fourth xs said ok e = block small 3 xs said (omega arith) ok e

-- several equations of one case
two : {A : Type 0} {a b c d : A} → a ≡ b → c ≡ d → ◌≡◌ {A = A × A} (a, c) (b, d)
two p q = λ i. (p i, q i)

three : {A : Type 0} {a b c d e f : A} → a ≡ b → c ≡ d → e ≡ f → ◌≡◌ {A = A × A × A} (a, c, e) (b, d, f)
three p q r = λ i. (p i, q i, r i)

four_of_law : {A : Type 0} {a b c d e f g h : A} → a ≡ b → c ≡ d → e ≡ f → g ≡ h → ◌≡◌ {A = A × A × A × A} (a, c, e, g) (b, d, f, h)
four_of_law p q r s = λ i. (p i, q i, r i, s i)

-- blocks, those outside the twelve too
computed : Hold (token_cases ++ block_cases ++ slip_cases ++ afresh_cases)
unfolding pick part written every numbers is_allowed byte_at four four_at four_bytes zero_from text_end text_at span_of end_of cursor_of numbers_of type_of type_number bytes_of kind_of number_of width_of length_of row_of room entry_at row_room row_at put_rows all_numbers entry_text entry_rows row_kind row_fits rows_fit earlier_fits byte_in four_in text_in string_step char_step digits_step with_width padded_of padded_step digits0_step delta_step delta0_step token_of has_row has_kind row_here delta_at delta0_at low padded count_within digit_count printed fits_width match_at value_step carries barred typed_step step_at past type_in value_past grown ended printable onward name_from name_of at_name dup_head diff_head typed_head head_of room_for kept keep_of head_past dup_of named_of diff_of rows_of none entry_back headed_of next_of told quick nexts left type_bytes bytes_in dir_from cur_from in_directory
computed = (
  first _ _ refl refl,
  (
    two (first _ _ refl refl) (first _ _ refl refl),
    (
      two (first _ _ refl refl) (first _ _ refl refl),
      (
        two (second _ _ refl refl) (second _ _ refl refl),
        (
          two (second _ _ refl refl) (second _ _ refl refl),
          (
            three (first _ _ refl refl) (first _ _ refl refl) (first _ _ refl refl),
            (
              rw (first (alone (Match ∷ []) [] []) (refused_at reason.NoRow 0 []) refl refl),
              (
                four_of_law (fourth _ _ refl refl) (fourth _ _ refl refl) (fourth _ _ refl refl) (fourth _ _ refl refl),
                (
                  first _ _ refl refl,
                  (
                    four_of_law (first _ _ refl refl) (first _ _ refl refl) (first _ _ refl refl) (first _ _ refl refl),
                    (
                      two (second _ _ refl refl) (second _ _ refl refl),
                      (
                        two (second _ _ refl refl) (second _ _ refl refl),
                        (
                          block wider 1 _ _ (omega arith) refl refl,
                          (
                            two (block wider 1 _ _ (omega arith) refl refl) (block wider 1 _ _ (omega arith) refl refl),
                            (
                              two (block wider 2 _ _ (omega arith) refl refl) (block wider 3 _ _ (omega arith) refl refl),
                              (three (block wider 1 _ _ (omega arith) refl refl) (block wider 1 _ _ (omega arith) refl refl) (block wider 1 _ _ (omega arith) refl refl), tt),
                            ),
                          ),
                        ),
                      ),
                    ),
                  ),
                ),
              ),
            ),
          ),
        ),
      ),
    ),
  ),
)

writing_holds : Hold writing_cases
unfolding pick part written same is_digit every is_allowed value_from value_of four_bytes span_of start_of end_of numbers_of type_number class_of is_letter run_end run_limit run_at cut_at text_piece number_piece piece_at rise_of by_rise lean_digits lean choice_at choices_from choices_of anew reference_of leans_on laying.share laying.content_of laying.joined laying.start_in laying.table_of laying.directory_of laying.total_of laying.bytes_of inputs.names_after inputs.names_of inputs.ended inputs.good_name inputs.judged_from piece_type choice_type piece_puts value_puts choice_puts token_puts head_puts reference_puts name_puts puts_from puts_of countable laid_of judged_of write_of type_bytes bytes_in streams_in wrote_in write_in
writing_holds = (refl, (refl, tt))

parted : (xs ys : List Case) → Hold (xs ++ ys) → Hold xs × Hold ys
parted [] ys p = (tt, p)
parted (x ∷ xs) ys p = let q = parted xs ys p.1 in ((p.0, q.0), q.1)

join : (xs ys : List Case) → Hold xs → Hold ys → Hold (xs ++ ys)
join [] ys p q = q
join (x ∷ xs) ys p q = (p.0, join xs ys p.1 q)

-- the twelve that are blocks, and the others
blocks : Hold (token_cases ++ block_cases) × Hold (slip_cases ++ afresh_cases)
blocks = parted (token_cases ++ block_cases) (slip_cases ++ afresh_cases) computed

-- each case is as the paper says
pub all_hold : Hold cases
all_hold = join (token_cases ++ block_cases) writing_cases blocks.0 writing_holds

-- and so is the slip that tempts
pub slip_holds : Hold slip_cases
slip_holds = (parted slip_cases afresh_cases blocks.1).0

-- and each block in which later names start afresh
pub afresh_hold : Hold afresh_cases
afresh_hold = (parted slip_cases afresh_cases blocks.1).1
