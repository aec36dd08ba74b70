use Rattle.std.proofs.Common.{[], ◌∷◌, subst}
use Rattle.explain_heard.specs.Heard.{Keeps}
use Rattle.explain_heard.specs.declared.heard.Heard.{Heard}
use Rattle.explain_heard.proofs.hearing.HearingListener.fragment.Goals as goal

pub returns : goal.returns
returns c = record {
  side = c.keep.ensures.side;
  endpoints = c.keep.ensures.endpoints;
  keeps = subst (λ (h : Heard). Keeps c.args.self.now.kept.items c.args.self.now.wanting (h ∷ []) c.keep.new.self.kept.items c.keep.new.self.wanting)
      c.fragment_heard-heard.ensures c.keep.ensures.keeps;
}
