use Rattle.std.proofs.Common.{◌≡◌, ◌∙◌, ap, sym, true, false}
use Rattle.std.specs.String.{string_bytes}
use Rattle.toml.specs.View.{table_view}
use Rattle.mill_job.specs.Keys.{is_name_of, unknown_but}
use Rattle.mill_job.proofs.UnknownKeys.{first_but, first_but-keys, goes_on, stops, is_done}
use Rattle.mill_job.proofs.document.first_unknown.Goals as goal

pub loop-name-init : goal.loop-name-init
loop-name-init c =
    ap (first_but c.args.keys.now) (c.into_iter-name-iterator.ensures.into_iter_gives ∙ c.keys-name-items.ensures.rest) ∙ first_but-keys c.args.keys.now c.args.table.now.entries

pub returns-then-not-is_one_of : goal.returns-then-not-is_one_of
returns-then-not-is_one_of c =
    let keys = c.args.keys.now in
    let unknown : is_name_of keys (string_bytes c.in-Some.name.now) ≡ false = ap (is_name_of keys) (sym c.as_str.ensures.value) ∙ sym c.is_one_of.ensures ∙ c.if-not-is_one_of.true in
    stops keys c.loop-name.name-iterator c.next.new.self c.in-Some.name.now (unknown_but keys (table_view c.args.table.now)) c.in-Some.ensures.steps unknown c.loop-name.invariant

pub loop-name-preserved : goal.loop-name-preserved
loop-name-preserved c =
    let keys = c.args.keys.now in
    let known : is_name_of keys (string_bytes c.in-Some.name.now) ≡ true = ap (is_name_of keys) (sym c.as_str.ensures.value) ∙ sym c.is_one_of.ensures ∙ c.if-not-is_one_of.false in
    goes_on keys c.loop-name.name-iterator c.next.new.self c.in-Some.name.now (unknown_but keys (table_view c.args.table.now)) c.in-Some.ensures.steps known c.loop-name.invariant

pub returns : goal.returns
returns c = is_done c.args.keys.now c.loop-name.name-iterator (unknown_but c.args.keys.now (table_view c.args.table.now)) c.in-None.ensures.steps.0 c.loop-name.invariant
