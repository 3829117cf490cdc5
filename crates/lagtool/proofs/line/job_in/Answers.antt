use Rattle.std.proofs.Common.{rules, ◌∙◌, ap, sym, codes}
use Rattle.clap.specs.Words.{found_of, rows_of}
use Rattle.lagtool.specs.Lines.{has_text, has_each_argument}
use Rattle.lagtool.proofs.LineLemmas.{both_hold, entered_as, some_of_text, value_is}
use Rattle.lagtool.proofs.line.job_in.Goals as goal

pub unwrap-requires-in-decode : goal.unwrap-requires-in-decode
unwrap-requires-in-decode c = let found = found_of c.unwrap.result.1.now in
    let named = entered_as c.args.matches.now c.unwrap.result.0.now (codes "decode") (rows_of found) (search rules) (search rules) (search rules) in
    some_of_text _ found (codes "HEX") c.get_str.ensures (ap has_each_argument (sym named) ∙ c.requires)

pub returns-in-decode : goal.returns-in-decode
returns-in-decode c = let found = found_of c.unwrap.result.1.now in
    let named = entered_as c.args.matches.now c.unwrap.result.0.now (codes "decode") (rows_of found) (search rules) (search rules) (search rules) in
    record { rows = rows_of found; named = named; values = value_is _ _ found (codes "HEX") c.unwrap-in-decode.ensures c.get_str.ensures }

pub unwrap-requires-in-respond : goal.unwrap-requires-in-respond
unwrap-requires-in-respond c = let found = found_of c.unwrap.result.1.now in
    let named = entered_as c.args.matches.now c.unwrap.result.0.now (codes "respond") (rows_of found) (search rules) (search rules) (search rules) in
    let whole = ap has_each_argument (sym named) ∙ c.requires in
    some_of_text _ found (codes "MAC") c.get_str-in-respond.ensures
    (both_hold (has_text (codes "MAC") (rows_of found)) (has_text (codes "HEX") (rows_of found)) whole).0

pub unwrap-requires-in-respond-2 : goal.unwrap-requires-in-respond-2
unwrap-requires-in-respond-2 c = let found = found_of c.unwrap.result.1.now in
    let named = entered_as c.args.matches.now c.unwrap.result.0.now (codes "respond") (rows_of found) (search rules) (search rules) (search rules) in
    let whole = ap has_each_argument (sym named) ∙ c.requires in
    some_of_text _ found (codes "HEX") c.get_str-in-respond-2.ensures
    (both_hold (has_text (codes "MAC") (rows_of found)) (has_text (codes "HEX") (rows_of found)) whole).1

pub returns-in-respond : goal.returns-in-respond
returns-in-respond c = let found = found_of c.unwrap.result.1.now in
    let named = entered_as c.args.matches.now c.unwrap.result.0.now (codes "respond") (rows_of found) (search rules) (search rules) (search rules) in
    record {
      rows = rows_of found;
      named = named;
      values = (
        value_is _ _ found (codes "MAC") c.unwrap-in-respond.ensures c.get_str-in-respond.ensures,
        value_is _ _ found (codes "HEX") c.unwrap-in-respond-2.ensures c.get_str-in-respond-2.ensures,
      );
    }

pub unwrap-requires-in-check : goal.unwrap-requires-in-check
unwrap-requires-in-check c = let found = found_of c.unwrap.result.1.now in
    let named = entered_as c.args.matches.now c.unwrap.result.0.now (codes "check") (rows_of found) (search rules) (search rules) (search rules) in
    some_of_text _ found (codes "FILE") c.get_str-in-check.ensures (ap has_each_argument (sym named) ∙ c.requires)

pub returns-in-check : goal.returns-in-check
returns-in-check c = let found = found_of c.unwrap.result.1.now in
    let named = entered_as c.args.matches.now c.unwrap.result.0.now (codes "check") (rows_of found) (search rules) (search rules) (search rules) in
    record { rows = rows_of found; named = named; values = value_is _ _ found (codes "FILE") c.unwrap-in-check.ensures c.get_str-in-check.ensures }

pub unwrap-requires-in-capture : goal.unwrap-requires-in-capture
unwrap-requires-in-capture c = let found = found_of c.unwrap.result.1.now in
    let named = entered_as c.args.matches.now c.unwrap.result.0.now (codes "capture") (rows_of found) (search rules) (search rules) (search rules) in
    some_of_text _ found (codes "FILE") c.get_str-in-capture.ensures (ap has_each_argument (sym named) ∙ c.requires)

pub returns-in-capture : goal.returns-in-capture
returns-in-capture c = let found = found_of c.unwrap.result.1.now in
    let named = entered_as c.args.matches.now c.unwrap.result.0.now (codes "capture") (rows_of found) (search rules) (search rules) (search rules) in
    let values = value_is _ _ found (codes "FILE") c.unwrap-in-capture.ensures c.get_str-in-capture.ensures in
    record { rows = rows_of found; named = named; values = values }

pub unwrap-requires-in-replay : goal.unwrap-requires-in-replay
unwrap-requires-in-replay c = let found = found_of c.unwrap.result.1.now in
    let named = entered_as c.args.matches.now c.unwrap.result.0.now (codes "replay") (rows_of found) (search rules) (search rules) (search rules) in
    some_of_text _ found (codes "SCRIPT") c.get_str-in-replay.ensures (ap has_each_argument (sym named) ∙ c.requires)

pub returns-in-replay : goal.returns-in-replay
returns-in-replay c = let found = found_of c.unwrap.result.1.now in
    let named = entered_as c.args.matches.now c.unwrap.result.0.now (codes "replay") (rows_of found) (search rules) (search rules) (search rules) in
    let values = value_is _ _ found (codes "SCRIPT") c.unwrap-in-replay.ensures c.get_str-in-replay.ensures in
    record { rows = rows_of found; named = named; values = values }
