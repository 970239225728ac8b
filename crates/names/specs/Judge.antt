-- What is judged of a name, and the name that is kept.
use Rattle.std.specs.Prelude.{[], length, Ok, Err}
use Rattle.names.specs.Names.{Judged, Draft, draft, Named, named, refused}

-- how many rows and bytes a name has, or its refusal
unfoldable pub summary : Named → Judged
summary (named d) = Ok (record { rows = d.count; length = length d.text })
summary (refused r) = Err r

-- the name, and nothing where it is refused
unfoldable pub draft_of : Named → Draft
draft_of (named d) = d
draft_of (refused r) = draft [] [] 0 []
