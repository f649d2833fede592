use Rattle.std.proofs.Common.{◌∙◌, sym}
use Rattle.vb_script.proofs.Numbers.{IsUtf8-numeral, number_of-parsed}
use Rattle.vb_script.proofs.number.number_in.Goals as goal

pub returns-in-Ok : goal.returns-in-Ok
returns-in-Ok c =
    let numeral = sym c.is_numeral.ensures ∙ c.if-not-is_numeral.false in
    c.ok.ensures.value ∙ number_of-parsed _ _ numeral (rw c.in-Ok.ensures.cases.0 at c.parse.ensures.value.0)

pub returns-in-Err : goal.returns-in-Err
returns-in-Err c =
    absurd (c.in-Err.ensures.cases.0 (IsUtf8-numeral _ (sym c.is_numeral.ensures ∙ c.if-not-is_numeral.false)))
