use Rattle.vb_active.proofs.Dues.{read-due, read-error}
use Rattle.vb_active.proofs.active.Active.fetch.Goals as goal

pub returns-clause-read : goal.returns-clause-read
returns-clause-read g c = λ d told backs.
    read-due (g.D.Disk.told c.args.disk.now) c.args.self.now c.args.slot c.args.page c.reference-reference.result c.read_page.result (record { at = c.reference-reference.ensures; apart = c.requires.apart }) c.read_page.ensures.answer c.read_page.ensures.read (λ state is. g.met.D.Disk.valid c.args.disk.now state is) d told backs

pub returns-clause-error : goal.returns-clause-error
returns-clause-error g c =
    read-error (g.D.Disk.told c.args.disk.now) c.args.self.now c.args.slot c.args.page c.reference-reference.result c.read_page.result (record { at = c.reference-reference.ensures; apart = c.requires.apart }) c.read_page.ensures.answer c.read_page.ensures.read
