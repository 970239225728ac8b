use Rattle.texts.specs.Words.{digits_word}
use Rattle.texts.specs.Texts.{piece_text}
use Rattle.texts.proofs.put_piece.Goals as goal

pub put_string-requires : goal.put_string-requires
unfolding piece_text
put_string-requires c =
    let g = c.in-String.is in record {
      from_le_to = rw g at c.requires.within;
      has_room = rw g at c.requires.has_room;
    }

pub put_char-requires : goal.put_char-requires
unfolding piece_text
put_char-requires c =
    rw c.in-Char.is at c.requires.has_room

pub put_labelled-requires : goal.put_labelled-requires
unfolding piece_text digits_word
put_labelled-requires c =
    rw c.in-Digits.is at c.requires.has_room

pub put_padded-requires : goal.put_padded-requires
unfolding piece_text
put_padded-requires c =
    rw c.in-Digits0.is at c.requires.has_room

pub returns-in-String : goal.returns-in-String
unfolding piece_text
returns-in-String c =
    rw c.in-String.is c.put_string.ensures

pub returns-in-Char : goal.returns-in-Char
unfolding piece_text
returns-in-Char c =
    rw c.in-Char.is c.put_char.ensures

pub returns-in-Digits : goal.returns-in-Digits
unfolding piece_text digits_word
returns-in-Digits c =
    rw c.in-Digits.is c.put_labelled.ensures

pub returns-in-Digits0 : goal.returns-in-Digits0
unfolding piece_text
returns-in-Digits0 c =
    rw c.in-Digits0.is c.put_padded.ensures
