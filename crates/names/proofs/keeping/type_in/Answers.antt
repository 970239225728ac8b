use Rattle.names.specs.Names.{type_in}
use Rattle.numbering.specs.Types.{numbers_of}
use mathlib.Core.Path.{sym, ap, ◌∙◌}
use Rattle.names.proofs.keeping.type_in.Goals as goal

pub returns-in-Some : goal.returns-in-Some
unfolding type_in
returns-in-Some c =
    c.type_of.ensures ∙ sym (ap (type_in (numbers_of c.args.set.kind)) c.in-Some.is)

pub returns-in-None : goal.returns-in-None
unfolding type_in
returns-in-None c =
    sym (ap (type_in (numbers_of c.args.set.kind)) c.in-None.is)
