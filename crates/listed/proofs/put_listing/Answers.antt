use Rattle.listed.proofs.Answers.{lines_room, totals_room, all_said}
use Rattle.pages.specs.Page.{page}
use Rattle.listed.proofs.put_listing.Goals as goal

pub put_lines-next-requires : goal.put_lines-next-requires
put_lines-next-requires c =
    let a = c.args in
    let g = c.requires.good in record {
      table_value = c.requires.table_value;
      input_value = (g.ends, g.few);
      has_room = lines_room a.input.now c.requires.input_len_bound g (page a.out.now 0) c.requires.has_room;
    }

pub put_totals-requires : goal.put_totals-requires
put_totals-requires c =
    let a = c.args in
    totals_room a.input.now c.requires.input_len_bound c.requires.good (page a.out.now 0) c.requires.has_room c.count-names.ensures c.total-bytes.ensures c.put_lines-next.ensures

pub returns : goal.returns
returns c =
    let a = c.args in
    all_said a.input.now c.requires.input_len_bound c.requires.good (page a.out.now 0) c.requires.has_room c.count-names.ensures c.total-bytes.ensures c.put_lines-next.ensures c.put_totals.ensures
