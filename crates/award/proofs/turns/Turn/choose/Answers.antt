use Rattle.std.proofs.Common.{◌≡◌, sym, ◌∙◌, rules}
use Rattle.std.proofs.lemmas.Bool.{cond-true, eq-eqb}
use Rattle.bundle.specs.Bundles.{units_of}
use Rattle.sheets.specs.Sheets.{bids_of}
use Rattle.vcg.specs.Optimum.{pick}
use Rattle.award.specs.Turns.{rest_of}
use Rattle.award.proofs.Picks.{number_of, picked_line}
use Rattle.award.proofs.turns.Turn.choose.Goals as goal

pub returns-then-worth_below-self : goal.returns-then-worth_below-self
unfolding pick
returns-then-worth_below-self c =
    let t = c.args.self.now in
    sym (cond-true _ _ _ (eq-eqb (rest_of t (units_of t.x)) t.target (sym c.worth_below.ensures.value ∙ c.if-worth_below-self.true)))

pub returns : goal.returns
returns c =
    let t = c.args.self.now in
    let number : c.map_or.result ≡ number_of c.first_line.result = search rules in
    number
    ∙ picked_line (rest_of t) (units_of t.x) t.target (bids_of c.args.sheet.now) c.lines.result.now c.first_line.result c.lines.ensures
    (λ e. c.if-worth_below-self.false (c.worth_below.ensures.value ∙ e)) c.first_line.ensures
