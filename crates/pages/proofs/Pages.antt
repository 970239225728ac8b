-- Texts said one behind another: room for both is room for each, and the two are one text.
use Prim.Native.Nat.{ℕ, ◌+◌, ◌≤◌}
use mathlib.Core.Path.{◌≡◌, sym, ap, ◌∙◌, subst}
use mathlib.Core.List.{List, [], ◌++◌}
use native.Mathlib.Omega.{arith}
use lib.ListN.{length, length-append}
use Rattle.base.specs.Memory.{written}
use Rattle.base.proofs.Memory.{written_next, written_none, length_written}
use Rattle.pages.specs.Page.{Page, page, said, HasRoom}
use Rattle.digits.specs.Digits.{printed}
use Rattle.digits.proofs.Laws.{printed_short}

-- what a write leaves, and the place behind it
pub said_by : (out : List ℕ) (at : ℕ) (text : List ℕ) {d : List ℕ} {e : ℕ} → d ≡ written out at text → e ≡ at + length text → page d e ≡ said text (page out at)
unfolding said
said_by out at text p q = rw (p, q)

pub said_out : (text : List ℕ) (w : Page) {v : Page} → v ≡ said text w → v.out ≡ written w.out w.at text
unfolding said
said_out text w e = ap (λ (x : Page). x.out) e

pub said_at : (text : List ℕ) (w : Page) {v : Page} → v ≡ said text w → v.at ≡ w.at + length text
unfolding said
said_at text w e = ap (λ (x : Page). x.at) e

pub said_none : (w : Page) → said [] w ≡ w
unfolding said
said_none w =
    ap (λ (x : List ℕ). page x (w.at + 0)) (written_none w.out w.at [])
    ∙ ap (λ (n : ℕ). page w.out n) (let e : w.at + 0 ≡ w.at = omega arith in e)

module _ (s t : List ℕ) (w : Page) (h : HasRoom (s ++ t) w) where
  pub first_room : HasRoom s w
  first_room = omega (arith, length-append s t)

  pub next_room : {v : Page} → v ≡ said s w → HasRoom t v
  unfolding said
  next_room {v} e =
      let k : HasRoom s w = first_room in
      let l : length v.out ≡ length w.out = ap length (said_out s w e) ∙ length_written w.out w.at s k in
      omega (arith, length-append s t, said_at s w e)

  one : said t (said s w) ≡ said (s ++ t) w
  unfolding said
  one =
      ap (λ (x : List ℕ). page x (w.at + length s + length t)) (written_next w.out w.at s t first_room)
      ∙ ap (λ (n : ℕ). page (written w.out w.at (s ++ t)) n) (let e : w.at + length s + length t ≡ w.at + length (s ++ t) = omega (arith, length-append s t) in e)

  pub said_next : {v u : Page} → v ≡ said s w → u ≡ said t v → u ≡ said (s ++ t) w
  said_next d e = e ∙ ap (said t) d ∙ one

-- the second of three
pub middle_room : (s t u : List ℕ) (w : Page) → HasRoom (s ++ (t ++ u)) w → {v : Page} → v ≡ said s w → HasRoom t v
middle_room s t u w h {v} e = first_room t u v (next_room s (t ++ u) w h e)

-- the same text under another name
module _ {s t : List ℕ} (e : s ≡ t) (w : Page) where
  pub same_room : HasRoom s w → HasRoom t w
  same_room h = subst (λ (l : List ℕ). HasRoom l w) e h

  pub same_said : {v : Page} → v ≡ said t w → v ≡ said s w
  same_said d = d ∙ ap (λ (l : List ℕ). said l w) (sym e)

-- a word and a number
pub labelled : (word : List ℕ) (n : ℕ) → length (word ++ printed n) ≤ length word + 10
labelled word n = omega (arith, length-append word (printed n), printed_short n)
