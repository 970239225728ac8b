use Rattle.reads.proofs.Loops.{reads_less, reads_on, reads_out}
use mathlib.Core.Path.{refl, sym, ◌∙◌}
use Rattle.reads.proofs.reads.Goals as goal

pub loop-so_far-init : goal.loop-so_far-init
loop-so_far-init c =
    (record { opened = c.requires.fact; counted = c.requires.counted; known = c.requires.known; goes = refl }, (refl, (refl, refl)))

pub next-r-requires : goal.next-r-requires
next-r-requires c = record {
  fact = c.loop-so_far.invariant.0.opened;
  counted = c.loop-so_far.invariant.0.counted;
  known = c.loop-so_far.invariant.0.known;
}

pub loop-so_far-smaller : goal.loop-so_far-smaller
loop-so_far-smaller c =
    reads_less _ _ _ _ _ _ _ _ _ _ c.loop-so_far.invariant.0 _ c.next-r.ensures (sym c.goes_on.ensures ∙ c.if-goes_on.true)

pub loop-so_far-preserved : goal.loop-so_far-preserved
loop-so_far-preserved c = (
  reads_on _ _ _ _ _ _ _ _ _ _ c.loop-so_far.invariant.0 _ c.next-r.ensures (sym c.goes_on.ensures ∙ c.if-goes_on.true),
  (c.next-r.auto.text ∙ c.loop-so_far.invariant.1.0, (c.next-r.auto.entries ∙ c.loop-so_far.invariant.1.1.0, c.next-r.auto.rows ∙ c.loop-so_far.invariant.1.1.1)),
)

pub shape_of-cursors-else-goes_on : goal.shape_of-cursors-else-goes_on
shape_of-cursors-else-goes_on c =
    c.next-r.auto.cursors ∙ c.loop-so_far.invariant.0.opened.table ∙ sym c.requires.fact.table

pub shape_of-text-else-goes_on : goal.shape_of-text-else-goes_on
shape_of-text-else-goes_on c =
    c.next-r.auto.text ∙ c.loop-so_far.invariant.1.0

pub shape_of-entries-else-goes_on : goal.shape_of-entries-else-goes_on
shape_of-entries-else-goes_on c =
    c.next-r.auto.entries ∙ c.loop-so_far.invariant.1.1.0

pub shape_of-rows-else-goes_on : goal.shape_of-rows-else-goes_on
shape_of-rows-else-goes_on c =
    c.next-r.auto.rows ∙ c.loop-so_far.invariant.1.1.1

pub returns-else-goes_on : goal.returns-else-goes_on
returns-else-goes_on c =
    reads_out _ _ _ _ _ _ _ _ _ _ c.loop-so_far.invariant.0 _ c.next-r.ensures (sym c.goes_on.ensures ∙ c.if-goes_on.false)
