use Rattle.std.proofs.Common.{◌≡◌, ◌≤◌, ◌+◌, length, drop, get_or, sym, ap, ◌∙◌, arith, Some, None}
use Rattle.query_text.specs.declared.want.Keyword.{Keyword}
use Rattle.query_text.specs.declared.want.Keyword.TheVariants.{Units}
use Rattle.query_text.specs.WordPlaces.{wrong_place}
use Rattle.query_text.specs.QueryWords.{is_wanted}
use Rattle.query_text.specs.Queries as spec
use Rattle.query_text.proofs.FormLemmas.{form_from-found, form_from-past, form_from-end}
use Rattle.query_text.proofs.read.form_of.Goals as goal

pub returns-in-None-clause-form : goal.returns-in-None-clause-form
returns-in-None-clause-form c =
    let keyword : Keyword = get_or c.args.keywords.now c.loop-keyword.keyword-index Units in
    let right : wrong_place is_wanted (spec.places_of keyword) c.args.words.now ≡ None = cc in
    sym (form_from-found c.args.keywords.now c.args.words.now c.loop-keyword.keyword-index c.loop-keyword.furthest Units c.loop-keyword-test.true right)
    ∙ c.loop-keyword.invariant.same

pub loop-keyword-preserved : goal.loop-keyword-preserved
loop-keyword-preserved c =
    let keyword : Keyword = get_or c.args.keywords.now c.loop-keyword.keyword-index Units in
    let wrong : wrong_place is_wanted (spec.places_of keyword) c.args.words.now ≡ Some c.in-Some.at = cc in
    let past = form_from-past c.args.keywords.now c.args.words.now c.loop-keyword.keyword-index c.loop-keyword.furthest Units c.loop-keyword-test.true c.in-Some.at wrong in
    let further : c.later-furthest.result ≤ length c.args.words.now = omega (arith, c.in-Some.ensures.within) in
    record {
      same = ap (spec.form_from (drop (c.loop-keyword.keyword-index + 1) c.args.keywords.now) c.args.words.now) c.later-furthest.ensures ∙ past ∙ c.loop-keyword.invariant.same;
      within = further;
    }

pub returns-clause-form : goal.returns-clause-form
returns-clause-form c =
    let all : c.loop-keyword.keyword-index ≡ length c.args.keywords.now = omega arith in
    sym (form_from-end c.args.keywords.now c.args.words.now c.loop-keyword.furthest) ∙ (rw (← all) c.loop-keyword.invariant.same)
