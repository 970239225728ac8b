use Rattle.texts.specs.Words.{delta_word, delta0_word, match_word, end_word}
use Rattle.texts.specs.Texts.{choice_text}
use Rattle.texts.proofs.put_choice.Goals as goal

pub put_piece-requires : goal.put_piece-requires
unfolding choice_text
put_piece-requires c =
    let g = c.in-Itself.is in record {
      within = rw g at c.requires.choice_within;
      has_room = rw g at c.requires.has_room;
    }

pub put_labelled-requires : goal.put_labelled-requires
unfolding choice_text delta_word
put_labelled-requires c =
    rw c.in-Delta.is at c.requires.has_room

pub put_labelled-requires-in-Delta0 : goal.put_labelled-requires-in-Delta0
unfolding choice_text delta0_word
put_labelled-requires-in-Delta0 c =
    rw c.in-Delta0.is at c.requires.has_room

pub put-requires : goal.put-requires
unfolding choice_text match_word
put-requires c =
    rw c.in-Match.is at c.requires.has_room

pub put-requires-in-End : goal.put-requires-in-End
unfolding choice_text end_word
put-requires-in-End c =
    rw c.in-End.is at c.requires.has_room

pub returns-in-Itself : goal.returns-in-Itself
unfolding choice_text
returns-in-Itself c =
    rw c.in-Itself.is c.put_piece.ensures

pub returns-in-Delta : goal.returns-in-Delta
unfolding choice_text delta_word
returns-in-Delta c =
    rw c.in-Delta.is c.put_labelled.ensures

pub returns-in-Delta0 : goal.returns-in-Delta0
unfolding choice_text delta0_word
returns-in-Delta0 c =
    rw c.in-Delta0.is c.put_labelled-in-Delta0.ensures

pub returns-in-Match : goal.returns-in-Match
unfolding choice_text match_word
returns-in-Match c =
    rw c.in-Match.is c.put.ensures

pub returns-in-End : goal.returns-in-End
unfolding choice_text end_word
returns-in-End c =
    rw c.in-End.is c.put-in-End.ensures
