use native.Mathlib.Omega.{arith}
use mathlib.Core.Path.{◌≡◌, sym, ◌∙◌}
use lib.ListN.{length}
use Rattle.tokens.specs.Tokens.{bytes_of}
use Rattle.tokens.proofs.Laws.{length_bytes}
use Rattle.names.proofs.Judgement.{long_spoils, short_prints}
use Rattle.names.proofs.judging.prints.Goals as goal

pub returns-then-before-length : goal.returns-then-before-length
returns-then-before-length c =
    let a = c.args in let b = bytes_of a.bytes.now a.text.now a.t in
    let e : a.length ≡ length b = c.requires.length_len.0 ∙ sym (length_bytes a.bytes.now a.text.now a.t c.requires.inside) in
    long_spoils b a.before a.length e (omega arith)

pub returns : goal.returns
returns c =
    let a = c.args in let b = bytes_of a.bytes.now a.text.now a.t in
    let e : a.length ≡ length b = c.requires.length_len.0 ∙ sym (length_bytes a.bytes.now a.text.now a.t c.requires.inside) in
    short_prints b a.before a.length e (omega arith) c.allowed.ensures
