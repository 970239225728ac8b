-- The numbers of the C boundary: a code with its value, a refusal, and the state.
-- The low 32 bits are the code (0, the refusal's number, or 256 for "done"), the high 32 bits the value.
use Rattle.std.specs.Prelude.{ℕ, ◌+◌, ◌*◌, ◌^◌, ◌<◌, ◌≡◌, List, [], ◌∷◌, get_or}
use Rattle.block.specs.declared.State.{State}
use Rattle.refusals.specs.declared.Refusal.{Refusal}
use Rattle.refusals.specs.declared.Refusal.TheVariants as refusal
use Rattle.refusals.specs.Refusals.{number_of}

unfoldable pub packed : ℕ → ℕ → ℕ
packed code value = code + 2 ^ 32 * value

-- a number has one code and one value: the code lies below 2^32, and the value is how often 2^32 goes into the rest
abbrev pub PackedOne : Type 0
PackedOne = (c v d w : ℕ) → c < 2 ^ 32 → d < 2 ^ 32 → packed c v ≡ packed d w → (c ≡ d) × (v ≡ w)

-- no name goes with it
abbrev pub no_name : ℕ
no_name = 4294967295

unfoldable pub refusal_number : Refusal → ℕ
refusal_number (refusal.Plain r) = packed (number_of r) no_name
refusal_number (refusal.At r n) = packed (number_of r) n

-- the state as four numbers
unfoldable pub state_in : List ℕ → State
state_in l = record { count = get_or l 0 0; names = get_or l 1 0; text = get_or l 2 0; rows = get_or l 3 0 }

unfoldable pub state_out : State → List ℕ
state_out s = s.count ∷ s.names ∷ s.text ∷ s.rows ∷ []
