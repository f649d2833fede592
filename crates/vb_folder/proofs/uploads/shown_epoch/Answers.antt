use Rattle.std.proofs.Common.{◌≡◌, Option, Some, None, ap, refl, sym, ◌∙◌}
use Rattle.std.specs.Option.{option_map}
use Rattle.vb_cloud.specs.Machine.{CloudState}
use Rattle.vb_link.specs.Views.{info_of, view_of, LinkView}
use Rattle.vb_link.specs.declared.view.ViewInfo.{ViewInfo}
use Rattle.vb_folder.proofs.uploads.shown_epoch.Goals as goal

-- the view that is shown is the cloud's, and so is its epoch
told-epoch : (shown : Option LinkView) (info : ViewInfo) (k : CloudState) → option_map info_of shown ≡ Some info → ((v : LinkView) → shown ≡ Some v → v ≡ view_of k) → k.epoch ≡ info.epoch
told-epoch None info k is agree = absurd (cc is)
told-epoch (Some v) info k is agree = ap (λ (w : LinkView). w.epoch) (sym (agree v refl)) ∙ ap (λ (i : ViewInfo). i.epoch) (let e : info_of v ≡ info = cc is in e)

pub returns-in-Ok-clause-cloud : goal.returns-in-Ok-clause-cloud
returns-in-Ok-clause-cloud g c = λ k told. told-epoch (g.K.Link.shown c.describe.new.self) c.in-Ok.info k c.in-Ok.ensures.info (λ v shown. g.met.K.Link.agree c.describe.new.self k v told shown)
