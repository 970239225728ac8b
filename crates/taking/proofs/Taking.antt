-- What taking a token answers, in a contract's direction.
use Prim.Native.Nat.{ℕ}
use Rattle.std.specs.Prelude.{Some, Ok, Err}
use Rattle.refusals.specs.declared.Reason.TheVariants as reason
use mathlib.Core.Path.{◌≡◌, refl, sym, ◌∙◌}
use mathlib.Core.Bool.{Bool, true, false}
use mathlib.Core.List.{List}
use Rattle.base.proofs.Choice.{took, left}
use Rattle.spans.specs.declared.Cursor.{Cursor}
use Rattle.numbering.specs.declared.TokenType.{TokenType}
use Rattle.tokens.specs.declared.Token.{Token}
use Rattle.tokens.specs.Tokens.{bytes_of, length_of}
use Rattle.names.specs.Names.{printable}
use Rattle.names.specs.Keeps.{Memory, put_token}
use Rattle.taking.specs.Taking.{taken, turn_of}

kept_taken : {keeping : Bool} (bytes text : List ℕ) (t : Token) (len : ℕ) → keeping ≡ true → true ≡ taken keeping bytes text t len
unfolding taken
kept_taken bytes text t len k = took _ _ k refl

judged_taken : {keeping : Bool} (bytes text : List ℕ) (t : Token) (len : ℕ) {r : Bool} → keeping ≡ false → r ≡ printable (bytes_of bytes text t) len
    → r ≡ taken keeping bytes text t len
unfolding taken
judged_taken bytes text t len k q = left _ _ k q

module _ {keeping : Bool} (bytes text : List ℕ) (t : Token) (c : Cursor) (len : ℕ) where
  pub kept_on : {w : ℕ} → keeping ≡ true → w ≡ length_of t → Ok (Some w) ≡ turn_of keeping bytes text len (Ok (Some (t, c)))
  unfolding turn_of
  kept_on k w = took _ _ (sym (kept_taken bytes text t len k)) (rw w)

  pub judged_on : {w : ℕ} {r : Bool} → keeping ≡ false → r ≡ printable (bytes_of bytes text t) len → r ≡ true → w ≡ length_of t
      → Ok (Some w) ≡ turn_of keeping bytes text len (Ok (Some (t, c)))
  unfolding turn_of
  judged_on k q y w = took _ _ (sym (judged_taken bytes text t len k q) ∙ y) (rw w)

  pub judged_spoils : {r : Bool} → keeping ≡ false → r ≡ printable (bytes_of bytes text t) len → r ≡ false
      → Err reason.BadName ≡ turn_of keeping bytes text len (Ok (Some (t, c)))
  unfolding turn_of
  judged_spoils k q y = left _ _ (sym (judged_taken bytes text t len k q) ∙ y) refl

pub put_typed : (bytes : List ℕ) (m : Memory) (t : Token) {ty found : TokenType} (p c at row : ℕ) {m' : Memory} → ty ≡ found
    → m' ≡ put_token bytes m t ty p c at row → m' ≡ put_token bytes m t found p c at row
put_typed bytes m t p c at row e q = rw (← e) q
