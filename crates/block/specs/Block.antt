-- A block's directory and cursors, the judgement of them (1, 13, 10), and opening.
use Rattle.std.specs.Prelude.{ℕ, zero, suc, ◌+◌, ◌*◌, Bool, not, List, [], ◌∷◌, length, get_or, ltb, leb, eqb}
use Rattle.refusals.specs.declared.Refusal.{Refusal}
use Rattle.refusals.specs.declared.Reason.{Reason}
use Rattle.std.specs.Prelude.{Ok, Err, Result, ⊤}
use Rattle.refusals.specs.declared.Reason.TheVariants as reason
use Rattle.base.specs.Choice.{pick, both}
use Rattle.base.specs.Every.{each}
use Rattle.refusals.specs.declared.Refusal.TheVariants.{Plain}
use Rattle.block.specs.declared.State.{State}

-- the answer of opening
abbrev pub Opened : Type 0
Opened = Result State Refusal

-- ten spans to a position, each a start and an end
unfoldable pub span_of : ℕ → ℕ → ℕ
span_of p s = 10 * p + s

unfoldable pub start_of : List ℕ → ℕ → ℕ
start_of dir i = get_or dir (2 * i) 0

unfoldable pub end_of : List ℕ → ℕ → ℕ
end_of dir i = get_or dir (2 * i + 1) 0

-- each span has a cursor of its own
unfoldable pub cursor_of : List ℕ → ℕ → ℕ
cursor_of cur i = get_or cur i 0

-- no start above its end, no end above the bytes
unfoldable pub span_sound : ℕ → List ℕ → ℕ → Bool
span_sound len dir i = both (leb (start_of dir i) (end_of dir i)) (leb (end_of dir i) len)

abbrev pub sound_from : ℕ → List ℕ → ℕ → ℕ → Bool
sound_from len dir = each (span_sound len dir)

-- directory and cursor table of the right length, every span sound: 1 is given where this is false
unfoldable pub sound : ℕ → List ℕ → List ℕ → Bool
sound len dir cur = both (eqb (length dir) 2580) (both (eqb (length cur) 1290) (sound_from len dir 0 1290))

-- a cursor inside its span
unfoldable pub inside : List ℕ → List ℕ → ℕ → Bool
inside dir cur i = both (leb (start_of dir i) (cursor_of cur i)) (leb (cursor_of cur i) (end_of dir i))

-- no cursor outside its span: 13 is given where this is false
unfoldable pub all_inside : List ℕ → List ℕ → Bool
all_inside dir cur = each (inside dir cur) 0 1290

-- 1 comes before 13
abbrev pub verdict : Bool → Bool → Result ⊤ Reason
verdict isSound areInside = pick isSound (pick areInside (Ok tt) (Err reason.Outside)) (Err reason.Unsound)

unfoldable pub verdict_of : ℕ → List ℕ → List ℕ → Result ⊤ Reason
verdict_of len dir cur = verdict (sound len dir cur) (all_inside dir cur)

-- a cursor that is not short of its end
unfoldable pub at_end : List ℕ → List ℕ → ℕ → Bool
at_end dir cur i = eqb (cursor_of cur i) (end_of dir i)

abbrev pub at_end_from : List ℕ → List ℕ → ℕ → ℕ → Bool
at_end_from dir cur = each (at_end dir cur)

-- with all names read, "done" where this is true and 10 where not
unfoldable pub all_at_end : List ℕ → List ℕ → Bool
all_at_end dir cur = at_end_from dir cur 0 1290

-- the starts of n spans from i on
unfoldable pub starts_from : List ℕ → ℕ → ℕ → List ℕ
starts_from dir i zero = []
starts_from dir i (suc n) = start_of dir i ∷ starts_from dir (i + 1) n

unfoldable pub starts : List ℕ → List ℕ
starts dir = starts_from dir 0 1290

-- the count of the block, k names kept, text bytes used and rows used
abbrev pub state : ℕ → ℕ → ℕ → ℕ → State
state count k text rows = record { count = count; names = k; text = text; rows = rows }

-- what opening leaves: its answer and the cursors
pub record Opening : Type 0 where
  pub answer : Opened
  pub cursors : List ℕ

abbrev pub opening : Opened → List ℕ → Opening
opening a c = record { answer = a; cursors = c }

-- opening: 1, 12; it sets each cursor to its start, notes the block's count, and sets k and both used sizes to 0
unfoldable pub open_of : ℕ → List ℕ → ℕ → List ℕ → Opening
open_of len dir count cur =
    pick (not (sound len dir cur)) (opening (Err (Plain reason.Unsound)) cur)
    (pick (ltb 65536 count) (opening (Err (Plain reason.BadCount)) cur)
    (opening (Ok (state count 0 0 0)) (starts dir)))
