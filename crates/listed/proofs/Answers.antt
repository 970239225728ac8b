-- From the writer's judgement to what is printed.
use Prim.Native.Nat.{ℕ, ◌≤◌, ◌<◌}
use Rattle.std.specs.Prelude.{Some, None, Ok, Err}
use Rattle.refusals.specs.declared.Reason.TheVariants as reason
use mathlib.Core.Path.{◌≡◌, refl, sym, ap, ◌∙◌}
use mathlib.Core.Bool.{true, false}
use mathlib.Core.List.{List, [], ◌∷◌, ◌++◌}
use native.Mathlib.Omega.{arith}
use borrow.Author.Tests.{lt-ltb, le-ltb, le-leb, eq-eqb}
use lib.Dec.{eqb}
use lib.ListN.{length}
use Rattle.base.proofs.Choice.{pick_true, pick_false, by_test}
use Rattle.refusals.specs.declared.Refusal.TheVariants.{Plain, At}
use Rattle.numbering.specs.Types.{draft_plain, Rules, rules_of}
use Rattle.laying.specs.Puts.{total_of}
use Rattle.inputs.specs.Inputs.{Judged, names_after, names_of, ended, judged_from}
use Rattle.nameputs.specs.NamePuts.{puts_of}
use Rattle.writing.specs.Writes.{WriteAnswer, Writing, countable, laid_of, judged_of, write_of}
use Rattle.filling.specs.Ready.{Ready}
use Rattle.writing.proofs.Laid.{countable_of, unended}
use Rattle.pages.specs.Page.{Page, said, HasRoom}
use Rattle.lines.specs.Lines.{lines_of}
use Rattle.closing.specs.Closing.{refusal_text, totals_text}
use Rattle.listed.specs.Listing.{answer_text, judged_answer, answer_of, listing_of, listed_of, Good, ListingWritten}
use Rattle.pages.proofs.Pages.{first_room, next_room, said_next, same_room, same_said}

pub ready : (input dir : List ℕ) → Good input → length dir ≡ 2580 → Ready input dir
ready input dir g h = record { ends = g.ends; few = g.few; fine = g.fine; table = h }

-- no more names than bytes
names_few : (so l : List ℕ) → length (names_after so l) ≤ length l
unfolding names_after
names_few so [] = omega arith
names_few so (b ∷ l) = by_test (eqb b 10)
    (λ e. omega (arith, ap length (pick_true {A = List (List ℕ)} (so ∷ names_after [] l) (names_after (so ++ b ∷ []) l) e), names_few [] l))
    (λ e. omega (arith, ap length (pick_false {A = List (List ℕ)} (so ∷ names_after [] l) (names_after (so ++ b ∷ []) l) e), names_few (so ++ b ∷ []) l))

pub few_names : (input : List ℕ) → length input ≤ 4096 → length (names_of input) ≤ 65536
unfolding names_of
few_names input h = omega (arith, names_few [] input)

module _ (input : List ℕ) where
  pub listed_long : 4096 < length input → listed_of input ≡ refusal_text (Plain reason.NoRoom)
  unfolding listed_of
  listed_long h = pick_true _ _ (lt-ltb _ _ h)

  module _ (h : length input ≤ 4096) where
    listed : {a : WriteAnswer} → answer_of (rules_of draft_plain) input ≡ a → listed_of input ≡ answer_text (names_of input) a
    unfolding listed_of listing_of
    listed e = pick_false _ _ (le-ltb _ _ h) ∙ ap (answer_text (names_of input)) e

    pub listed_unended : ended input ≡ false → listed_of input ≡ refusal_text (Plain reason.BadCount)
    unfolding answer_text answer_of
    listed_unended e = listed {a = Err (Plain reason.BadCount)} (pick_false _ _ (unended input e))

    module _ (e : ended input ≡ true) where
      answer : answer_of (rules_of draft_plain) input ≡ judged_answer (rules_of draft_plain) (judged_from 0 (names_of input)) (names_of input)
      unfolding answer_of
      answer = pick_true _ _ (countable_of input e (few_names input h))

      pub listed_bad : {n : ℕ} → judged_from 0 (names_of input) ≡ Some n → listed_of input ≡ refusal_text (At reason.BadName n)
      unfolding answer_text judged_answer
      listed_bad {n} f = listed {a = Err (At reason.BadName n)} (answer ∙ ap (λ (j : Judged). judged_answer (rules_of draft_plain) j (names_of input)) f)

      pub good : judged_from 0 (names_of input) ≡ None → Good input
      good f = record { ends = e; few = few_names input h; fine = f }

  pub listed_good : length input ≤ 4096 → Good input → listed_of input ≡ lines_of (names_of input) ++ totals_text (length (names_of input)) (total_of (puts_of (rules_of draft_plain) (names_of input)))
  unfolding answer_text judged_answer
  listed_good h g = listed h {a = Ok (record { names = length (names_of input); bytes = total_of (puts_of (rules_of draft_plain) (names_of input)) })} (answer h g.ends ∙ ap (λ (j : Judged). judged_answer (rules_of draft_plain) j (names_of input)) g.fine)

-- the lines, then the totals
module _ (input : List ℕ) (h : length input ≤ 4096) (g : Good input) (w : Page) (room : HasRoom (listed_of input) w) where
  totals : List ℕ
  totals = totals_text (length (names_of input)) (total_of (puts_of (rules_of draft_plain) (names_of input)))

  all : listed_of input ≡ lines_of (names_of input) ++ totals
  unfolding totals
  all = listed_good input h g

  all_room : HasRoom (lines_of (names_of input) ++ totals) w
  all_room = same_room all w room

  pub lines_room : HasRoom (lines_of (names_of input)) w
  lines_room = first_room (lines_of (names_of input)) totals w all_room

  module _ {n t : ℕ} (p : n ≡ length (names_of input)) (q : t ≡ total_of (puts_of (rules_of draft_plain) (names_of input))) {v : Page} (d : v ≡ said (lines_of (names_of input)) w) where
    named : totals ≡ totals_text n t
    unfolding totals
    named = rw (p, q)

    pub totals_room : HasRoom (totals_text n t) v
    totals_room = same_room named v (next_room (lines_of (names_of input)) totals w all_room d)

    pub all_said : {u : Page} → u ≡ said (totals_text n t) v → u ≡ said (listed_of input) w
    all_said e = same_said all w (said_next (lines_of (names_of input)) totals w all_room d (same_said named v e))

-- The writer's own answer, where the directory has its length and there is room

module _ (rules : Rules) (names : List (List ℕ)) (dir bytes : List ℕ) (h : total_of (puts_of rules names) ≤ length bytes) where
  judged_answer_law : (j : Judged) → (judged_of rules j names dir bytes).answer ≡ judged_answer rules j names
  unfolding judged_of laid_of judged_answer
  judged_answer_law None = ap (λ (x : Writing). x.answer) (pick_true _ _ (le-leb _ _ h))
  judged_answer_law (Some n) = refl

pub answer_written : (rules : Rules) (input dir bytes : List ℕ) → length dir ≡ 2580 → total_of (puts_of rules (names_of input)) ≤ length bytes → (write_of rules input dir bytes).answer ≡ answer_of rules input
unfolding write_of answer_of
answer_written rules input dir bytes e h =
    ap (λ (x : Writing). x.answer) (pick_true _ _ (eq-eqb _ _ e))
    ∙ by_test (countable input)
    (λ t. ap (λ (x : Writing). x.answer) (pick_true _ _ t) ∙ judged_answer_law rules (names_of input) dir bytes h (judged_from 0 (names_of input)) ∙ sym (pick_true _ _ t))
    (λ t. ap (λ (x : Writing). x.answer) (pick_false _ _ t) ∙ sym (pick_false _ _ t))

pub listing_written : ListingWritten
unfolding listing_of
listing_written rules input dir bytes e h = ap (answer_text (names_of input)) (sym (answer_written rules input dir bytes e h))
