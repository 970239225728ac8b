use Rattle.pages.proofs.Pages.{first_room, next_room, said_next}
use Rattle.pages.specs.Page.{page}
use Rattle.texts.specs.Words.{diff_word}
use Rattle.lines.specs.Lines.{tokens_text}
use Rattle.choices.specs.Choices.{choices_of}
use Rattle.digits.specs.Digits.{printed}
use mathlib.Core.List.{◌++◌}
use Rattle.lines.proofs.put_diff.Goals as goal

pub put_labelled-next-requires : goal.put_labelled-next-requires
unfolding diff_word
put_labelled-next-requires c =
    let a = c.args in
    first_room (diff_word ++ printed a.distance.0) (tokens_text a.name.now (choices_of a.before.now a.name.now)) (page a.out.now a.at) c.requires.has_room

pub put_tokens-requires : goal.put_tokens-requires
unfolding diff_word
put_tokens-requires c =
    let a = c.args in record {
      table_value = c.requires.table_value;
      has_room = next_room (diff_word ++ printed a.distance.0) (tokens_text a.name.now (choices_of a.before.now a.name.now)) (page a.out.now a.at) c.requires.has_room c.put_labelled-next.ensures;
    }

pub returns : goal.returns
unfolding diff_word
returns c =
    let a = c.args in
    said_next (diff_word ++ printed a.distance.0) (tokens_text a.name.now (choices_of a.before.now a.name.now)) (page a.out.now a.at) c.requires.has_room c.put_labelled-next.ensures c.put_tokens.ensures
