-- What opening has judged and reading keeps: tables of the right length, sound spans, each cursor inside its span.
use Rattle.std.specs.Prelude.{ℕ, ◌≤◌, ◌<◌, List, ◌≡◌, length}
use Rattle.block.specs.Block.{start_of, end_of, cursor_of}

pub record Open (bytes dir cur : List ℕ) : Type 0 where
  pub directory : length dir ≡ 2580
  pub table : length cur ≡ 1290
  pub ordered : (i : ℕ) → i < 1290 → start_of dir i ≤ end_of dir i
  pub within : (i : ℕ) → i < 1290 → end_of dir i ≤ length bytes
  pub started : (i : ℕ) → i < 1290 → start_of dir i ≤ cursor_of cur i
  pub unpassed : (i : ℕ) → i < 1290 → cursor_of cur i ≤ end_of dir i
