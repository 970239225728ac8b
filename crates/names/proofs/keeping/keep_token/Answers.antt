use Rattle.names.proofs.Turns.{token_put}
use Rattle.tables.specs.Tables.{in_rows}
use Rattle.names.proofs.keeping.keep_token.Goals as goal

pub returns : goal.returns
returns c =
    let a = c.args in record {
      value = c.put-len.ensures.value;
      cursors_value = token_put a.bytes.now a.text.now (in_rows a.rows.now) a.cursors.now a.t a.ty a.p.0 a.c.0 a.at a.row c.put-len.ensures.text_value c.put_row.ensures c.advance.ensures;
    }
