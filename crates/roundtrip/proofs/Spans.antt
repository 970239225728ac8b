-- The spans of written streams: one after another with no gaps, the total the end of the last, and each holds what was put there.
use Prim.Native.Nat.{ℕ, zero, suc, ◌+◌, ◌-◌, ◌*◌, ◌≤◌, ◌<◌}
use mathlib.Core.Path.{◌≡◌, refl, sym, ap, ◌∙◌, subst}
use mathlib.Core.List.{List, [], ◌∷◌, ◌++◌, append_assoc}
use native.Mathlib.Omega.{arith}
use native.Mathlib.Nat.{zero-add}
use lib.ListN.{length, get_or, take, drop, length-take}
use lib.Seq.{get_or_at, drop_at}
use Rattle.base.specs.Memory.{part, written}
use Rattle.base.proofs.Memory.{length_written}
use Rattle.base.proofs.Holding.{Holds, holds_written, holds_left, holds_right, holds_part, holds_same}
use Rattle.block.specs.Block.{start_of, end_of, starts}
use Rattle.block.proofs.Laws.{starts_length, starts_cursor}
use Rattle.laying.specs.Puts.{Put, content_of, joined, start_in, table_of, directory_of, total_of, bytes_of}
use Rattle.laying.proofs.Joined.{joined_none, joined_more, joined_at, length_joined_suc, length_joined_at, length_joined_none}
use Rattle.laying.proofs.Tables.{length_table, end_table}
use Rattle.nameputs.specs.NamePuts.{puts_from, puts_of}
use Rattle.roundtrip.specs.Layout.{LaidOut}
use Rattle.roundtrip.proofs.Eating.{Left, content_none}
use Rattle.numbering.specs.Types.{Rules}

-- a start read from a table of starts and ends
module _ (a b : ℕ → ℕ) where
  abbrev pair : ℕ → List ℕ
  pair i = a i ∷ b i ∷ []

  length_pairs : (n i : ℕ) → length (joined pair i n) ≡ 2 * n
  length_pairs zero i = ap length (joined_none pair i)
  length_pairs (suc n) i =
      let p : length (joined pair i (suc n)) ≡ suc (suc (length (joined pair (i + 1) n))) = ap length (joined_more pair i n) in
      omega (arith, length_pairs n (i + 1))

  start_table : (k : ℕ) → k < 1290 → start_of (table_of a b) k ≡ a k
  unfolding table_of start_of
  start_table k h =
      let rest : List ℕ = joined pair (k + 1) (1290 - (k + 1)) in
      ap (λ (l : List ℕ). get_or l (2 * k) 0) (joined_at pair k 1290 h ∙ append_assoc (joined pair 0 k) (pair k) rest)
      ∙ get_or_at (joined pair 0 k) (a k) (b k ∷ rest) 0 (2 * k) (length_pairs k 0)

module _ (ps : List Put) where
  pub directory_length : length (directory_of ps) ≡ 2580
  unfolding directory_of
  directory_length = length_table (start_in ps) (λ i. start_in ps (i + 1))

  pub start_is : (i : ℕ) → i < 1290 → start_of (directory_of ps) i ≡ start_in ps i
  unfolding directory_of
  start_is i h = start_table (start_in ps) (λ j. start_in ps (j + 1)) i h

  pub end_is : (i : ℕ) → i < 1290 → end_of (directory_of ps) i ≡ start_in ps (i + 1)
  unfolding directory_of
  end_is i h = end_table (start_in ps) (λ j. start_in ps (j + 1)) i h

  -- a span is as long as what was put there
  pub span_size : (i : ℕ) → start_in ps (i + 1) ≡ start_in ps i + length (content_of ps i)
  unfolding start_in
  span_size i = length_joined_suc (content_of ps) i

  -- the first span starts at 0, each starts where the one before it ends, and the total is the end of the last
  pub first_start : start_of (directory_of ps) 0 ≡ 0
  unfolding start_in
  first_start = start_is 0 (omega arith) ∙ ap length (joined_none (content_of ps) 0)

  pub no_gaps : (i : ℕ) → i + 1 < 1290 → end_of (directory_of ps) i ≡ start_of (directory_of ps) (i + 1)
  no_gaps i h = end_is i (omega arith) ∙ sym (start_is (i + 1) h)

  pub total_is : end_of (directory_of ps) 1289 ≡ total_of ps
  unfolding total_of
  total_is = end_is 1289 (omega arith)

  -- no span ends above the total
  pub ends_below : (i : ℕ) → i < 1290 → end_of (directory_of ps) i ≤ total_of ps
  unfolding total_of start_in
  ends_below i h = omega (arith, end_is i h, length_joined_suc (content_of ps) i, length_joined_at (content_of ps) i 1290 h)

  module _ (bytes : List ℕ) where
    pub span_holds : (i : ℕ) → i < 1290 → Holds (bytes_of ps bytes) (start_in ps i) (content_of ps i)
    unfolding bytes_of start_in
    span_holds i h =
        let f : ℕ → List ℕ = content_of ps in
        let all : Holds (bytes_of ps bytes) 0 (joined f 0 i ++ f i ++ joined f (i + 1) (1290 - (i + 1))) =
        subst (λ (l : List ℕ). Holds (bytes_of ps bytes) 0 l) (joined_at f i 1290 h) (holds_written bytes 0 (joined f 0 1290) (omega arith)) in
        subst (λ (n : ℕ). Holds (bytes_of ps bytes) n (f i)) (zero-add (length (joined f 0 i)))
        (holds_right (bytes_of ps bytes) 0 (joined f 0 i) (f i) (holds_left (bytes_of ps bytes) 0 (joined f 0 i ++ f i) (joined f (i + 1) (1290 - (i + 1))) all))

    pub bytes_length : total_of ps ≤ length bytes → length (bytes_of ps bytes) ≡ length bytes
    unfolding bytes_of total_of start_in
    bytes_length h = length_written bytes 0 (joined (content_of ps) 0 1290) (omega arith)

    -- and from the total on the bytes are as they were
    pub rest_stays : drop (total_of ps) (bytes_of ps bytes) ≡ drop (total_of ps) bytes
    unfolding bytes_of total_of start_in written
    rest_stays =
        let all : List ℕ = joined (content_of ps) 0 1290 in
        drop_at all (drop (0 + length all) bytes) (length all) refl ∙ ap (λ (n : ℕ). drop n bytes) (zero-add (length all))

    pub laid_out : LaidOut ps (directory_of ps) (bytes_of ps bytes) bytes (total_of ps)
    laid_out =
        record {
          first = first_start;
          gapless = no_gaps;
          sum = total_is;
          spans =
              λ i h.
              ap (λ (n : ℕ). part (bytes_of ps bytes) n (end_of (directory_of ps) i)) (start_is i h)
              ∙ ap (part (bytes_of ps bytes) (start_in ps i)) (end_is i h ∙ span_size i)
              ∙ holds_part (bytes_of ps bytes) (start_in ps i) (content_of ps i) (span_holds i h);
          rest = rest_stays;
        }

    -- bytes that begin with what was written, up to the total
    module _ (b : List ℕ) (same : take (total_of ps) b ≡ take (total_of ps) (bytes_of ps bytes)) where
      pub ends_within : total_of ps ≤ length bytes → (i : ℕ) → i < 1290 → end_of (directory_of ps) i ≤ length b
      ends_within h i l =
          omega (arith, ends_below i l, bytes_length h, length-take (total_of ps) b, length-take (total_of ps) (bytes_of ps bytes), ap length same)

      -- with every cursor at its start the streams hold all that was put
      pub laid : Left b (directory_of ps) (starts (directory_of ps)) ps
      laid =
          let dir : List ℕ = directory_of ps in
          record {
            table = starts_length dir;
            started = λ i h. omega (arith, starts_cursor dir i h);
            ends = λ i h. omega (arith, starts_cursor dir i h, start_is i h, end_is i h, span_size i);
            holds = λ i h.
                rw (starts_cursor dir i h, start_is i h)
                (holds_same (bytes_of ps bytes) b (start_in ps i) (content_of ps i) (total_of ps) (sym same) (omega (arith, ends_below i h, end_is i h, span_size i)) (span_holds i h));
          }

-- no names are 0 bytes
pub nothing_put : (rules : Rules) → total_of (puts_of rules []) ≡ 0
unfolding puts_of puts_from total_of start_in
nothing_put rules = length_joined_none (content_of []) 1290 0 (λ j h k. ap length (content_none j))
