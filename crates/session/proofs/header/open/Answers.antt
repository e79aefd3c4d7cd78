use Rattle.std.proofs.Common.{◌≡◌, ◌+◌, ◌-◌, ◌*◌, length, map, sym, ap, ◌∙◌, arith}
use Rattle.std.proofs.lemmas.Bool.{le-ltb, cond-false}
use Rattle.sale.specs.Opening.{open_sale}
use Rattle.session.specs.Session.{u64_at, lot_in, account_in, lots_at, accounts_at, lot_count, farm_count, opening_size}
use Rattle.session.proofs.Rows.{lots_parts, accounts_parts}
use Rattle.session.proofs.header.open.Goals as goal

pub returns : goal.returns
returns c =
    let bs = c.args.file.now in
    let size = c.size_of_opening-size in
    let long = le-ltb (length bs) (opening_size bs) (omega (arith, size.ensures)) in
    let n = c.lots_named-count.ensures in
    let place = c.from.ensures ∙ n in
    let end : size.result - 8 ≡ 2 + lot_count bs * 5 + farm_count bs * 4 = omega (arith, size.ensures) in
    let lots = c.deref.ensures.0 ∙ c.read_lots-lots.ensures ∙ ap (map lot_in) c.parts.ensures.value ∙ lots_parts bs 1 _ ∙ ap (lots_at bs 1) n in
    let accounts =
    c.deref-2.ensures.0 ∙ c.read_accounts-accounts.ensures ∙ ap (map account_in) c.parts-2.ensures.value ∙ accounts_parts bs _ _
    ∙ (λ i. accounts_at bs (2 + place i * 5) (c.farms_named.ensures i)) in
    let company = c.long_at-company.ensures ∙ ap (u64_at bs) end in
    c.open.ensures ∙ (λ i. open_sale (lots i) (accounts i) (company i)) ∙ sym (cond-false _ _ _ long)
