use Rattle.krb_ccache.proofs.Cited.{sym, ap, subst, ◌∙◌, option_copied, CacheState, credential_at_place, put_result, without, HoldsConfig}
use Rattle.krb_ccache.proofs.ConfigValues.{is_set}
use Rattle.krb_ccache.proofs.ccache.Ccache.set_config.Goals as goal

pub returns-clause-holds : goal.returns-clause-holds
returns-clause-holds g c =
    let k = c.args.self.now.state in
    let mid = c.store.new.self.state in
    let text = option_copied c.args.principal in
    let known = c.in_ok-check_setting.ensures in
    let put = ap (put_result k) (sym c.in_ok-entry.ensures) ∙ c.in_ok-place.ensures.gives in
    let t = is_set k mid c.args.key.now text c.args.value.now c.in_ok-place.place known.version known.whole known.ok put in
    let new = c.remove_all.ensures.gives ∙ ap (without mid) (c.deref.ensures.value ∙ c.in_ok-others.ensures) in
    subst (λ (s : CacheState). HoldsConfig s c.args.key.now text c.args.value.now c.in_ok-place.place) (sym new) t.holds

pub returns-clause-there : goal.returns-clause-there
returns-clause-there g c =
    let k = c.args.self.now.state in
    let mid = c.store.new.self.state in
    let text = option_copied c.args.principal in
    let known = c.in_ok-check_setting.ensures in
    let put = ap (put_result k) (sym c.in_ok-entry.ensures) ∙ c.in_ok-place.ensures.gives in
    let t = is_set k mid c.args.key.now text c.args.value.now c.in_ok-place.place known.version known.whole known.ok put in
    let new = c.remove_all.ensures.gives ∙ ap (without mid) (c.deref.ensures.value ∙ c.in_ok-others.ensures) in
    ap (λ (s : CacheState). credential_at_place s c.in_ok-place.place) new ∙ t.there
