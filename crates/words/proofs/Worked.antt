-- The paper's example, and STRING A_B of other writers (C-14), computed.
use mathlib.Core.Path.{◌≡◌, refl}
use mathlib.Core.List.{[], ◌∷◌}
use Rattle.base.specs.Choice.{pick}
use Rattle.base.specs.Every.{every, numbers}
use Rattle.digits.specs.Digits.{low, padded, count_within, digit_count, printed, fits_width}
use Rattle.classes.specs.Classes.{is_allowed}
use Rattle.block.specs.Block.{span_of}
use Rattle.numbering.specs.Types.{numbers_of, type_of}
use Rattle.bars.specs.Bars.{carries, barred}
use Rattle.words.specs.Fronts.{leave, byte, four, longer, text, then, taken}
use Rattle.words.specs.Values.{prints}
use Rattle.words.specs.Words.{fitting, summed, summed0, on_digits, on_digits0, on_any, resolved, typed, found, onward, behind, tokens_from, copy, made, headed, next, is_empty, go_on, names_from}
use Rattle.words.specs.Worked.{nothing, says, saying, says_whole, saying_whole}

pub worked : saying ∷ saying_whole ∷ [] ≡ says ∷ says_whole ∷ []
unfolding pick every numbers low padded count_within digit_count printed fits_width is_allowed span_of numbers_of type_of carries barred leave byte four longer text then taken prints fitting summed summed0 on_digits on_digits0 on_any resolved typed found onward behind tokens_from copy made headed next is_empty go_on names_from nothing
worked = refl
