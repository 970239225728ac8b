-- From the passes to what they find and fill: the total, the directory and the bytes.
use Prim.Native.Nat.{ℕ, ◌+◌, ◌^◌, ◌≤◌, ◌<◌}
use mathlib.Core.Path.{◌≡◌, sym, ap, ◌∙◌, subst}
use mathlib.Core.Bool.{Bool}
use mathlib.Core.List.{List, []}
use native.Mathlib.Omega.{arith}
use borrow.Author.Tests.{le-leb}
use lib.Dec.{leb}
use lib.ListN.{length}
use Rattle.numbering.specs.Types.{Rules}
use Rattle.laying.specs.declared.Pass.TheVariants.{Total, Sizes, Fill}
use Rattle.laying.specs.Puts.{Put, start_in, table_of, total_of, directory_of, bytes_of}
use Rattle.laying.specs.Passes.{World, world, run_of, Roomy, offset_in, places_of, cleared}
use Rattle.laying.proofs.Passes.{Inside, size_of, size_total, total_run, total_roomy}
use Rattle.laying.proofs.Filling.{fill_room, fill_all, sizes_in, sizes_room, sizes_all, length_sizes, places_start, places_total}
use Rattle.inputs.specs.Inputs.{names_of}
use Rattle.nameputs.specs.NamePuts.{puts_of}
use Rattle.filling.specs.Ready.{Ready, Ample}
use Rattle.nameputs.proofs.Totals.{puts_inside, total_below, total_most}

-- all that the names of an input put
abbrev pub puts_in : Rules → List ℕ → List Put
puts_in rules input = puts_of rules (names_of input)

inside : (rules : Rules) (input : List ℕ) → Inside (puts_in rules input)
unfolding puts_of
inside rules input = puts_inside rules 0 [] (names_of input)

total_size : (rules : Rules) (input : List ℕ) → size_of (puts_in rules input) ≡ total_of (puts_in rules input)
total_size rules input = size_total (puts_in rules input) (inside rules input)

pub ample : Ample
ample rules input dir bytes k h = let l : total_of (puts_in rules input) ≤ length bytes = omega (arith, total_most rules input) in sym (le-leb _ _ l)

module _ (rules : Rules) (input dir bytes : List ℕ) (k : Ready input dir) where
  below : total_of (puts_in rules input) < 2 ^ 32
  below = total_below rules (names_of input) k.fine k.few

  size_below : size_of (puts_in rules input) < 2 ^ 32
  size_below = omega (arith, below, total_size rules input)

  -- The total

  pub total_room : Roomy Total (puts_in rules input) (world 0 dir bytes)
  total_room = total_roomy (puts_in rules input) 0 dir bytes (inside rules input) k.table (omega (arith, size_below))

  module _ {t : ℕ} {d y : List ℕ} (e : world t d y ≡ run_of Total (puts_in rules input) (world 0 dir bytes)) where
    all : world t d y ≡ world (0 + size_of (puts_in rules input)) dir bytes
    all = e ∙ total_run (puts_in rules input) 0 dir bytes

    pub total_is : t ≡ total_of (puts_in rules input)
    total_is = ap (λ (w : World). w.total) all ∙ omega (arith, total_size rules input)

    pub counted_out : {f : Bool} → f ≡ leb t (length y) → (f ≡ leb (total_of (puts_in rules input)) (length bytes)) × ((d ≡ dir) × (y ≡ bytes))
    counted_out q =
        let b : y ≡ bytes = ap (λ (w : World). w.bytes) all in
        (q ∙ ap (λ (n : ℕ). leb n (length y)) total_is ∙ ap (λ (x : List ℕ). leb (total_of (puts_in rules input)) (length x)) b, (ap (λ (w : World). w.dir) all, b))

  -- Sizes, places, bytes

  module _ (h : total_of (puts_in rules input) ≤ length bytes) where
    pub first_room : {a : List ℕ} → a ≡ cleared → Roomy Sizes (puts_in rules input) (world 0 a bytes)
    first_room e = subst (λ (x : List ℕ). Roomy Sizes (puts_in rules input) (world 0 x bytes)) (sym e) (sizes_room (puts_in rules input) bytes (inside rules input) size_below)

    module _ {a b y : List ℕ} {t : ℕ} (e : a ≡ cleared) (f : world t b y ≡ run_of Sizes (puts_in rules input) (world 0 a bytes)) where
      counted : world t b y ≡ world (0 + size_of (puts_in rules input)) (sizes_in (puts_in rules input)) bytes
      counted = f ∙ ap (λ (x : List ℕ). run_of Sizes (puts_in rules input) (world 0 x bytes)) e ∙ sizes_all (puts_in rules input) bytes (inside rules input)

      sizes : b ≡ sizes_in (puts_in rules input)
      sizes = ap (λ (w : World). w.dir) counted

      pub places_room : (length b ≡ 2580) × (offset_in b 1290 < 2 ^ 32)
      places_room = (ap length sizes ∙ length_sizes (puts_in rules input), omega (arith, ap (λ (x : List ℕ). offset_in x 1290) sizes, places_total (puts_in rules input), below))

      module _ {c : List ℕ} (g : c ≡ places_of b) where
        at : world 0 c y ≡ world 0 (table_of (start_in (puts_in rules input)) (start_in (puts_in rules input))) bytes
        at =
            ap (λ (x : List ℕ). world 0 x y) (g ∙ ap places_of sizes ∙ places_start (puts_in rules input))
            ∙ ap (λ (x : List ℕ). world 0 (table_of (start_in (puts_in rules input)) (start_in (puts_in rules input))) x) (ap (λ (w : World). w.bytes) counted)

        pub last_room : Roomy Fill (puts_in rules input) (world 0 c y)
        last_room = subst (λ (w : World). Roomy Fill (puts_in rules input) w) (sym at) (fill_room (puts_in rules input) bytes (inside rules input) h below)

        pub filled : {d z : List ℕ} {u : ℕ} → world u d z ≡ run_of Fill (puts_in rules input) (world 0 c y) → (u ≡ total_of (puts_in rules input)) × ((d ≡ directory_of (puts_in rules input)) × (z ≡ bytes_of (puts_in rules input) bytes))
        filled i =
            let j = i ∙ ap (run_of Fill (puts_in rules input)) at ∙ fill_all (puts_in rules input) bytes (inside rules input) h in
            (ap (λ (w : World). w.total) j, (ap (λ (w : World). w.dir) j, ap (λ (w : World). w.bytes) j))
