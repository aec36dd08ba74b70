use Rattle.std.proofs.Common.{◌≡◌, ℕ, Bool, [], ◌∷◌, ◌++◌, if◌then◌else◌, subst, ap, ◌∙◌}
use Rattle.fh_base.specs.Told.{WritesFront}
use Rattle.fh_base.proofs.Progress.{front_second}
use Rattle.air_source.specs.Tellings.{bytes_owed}
use Rattle.text_tests.proofs.line_air.LineAir.finish.Goals as goal

pub returns-clause-front : goal.returns-clause-front
returns-clause-front g c =
    let s = c.args.self.now in
    let last : c.digit.result ≡ (if s.odd then 1 else 0) = c.digit.ensures ∙ ap (λ (b : Bool). if b then 1 else 0) c.push_out.ensures.odd in
    let whole = front_second _ _ _ (bytes_owed s.full s.line) (c.digit.result ∷ []) c.in_ok-push_out.ensures.all c.put.ensures.front in
    subst (λ (n : ℕ). WritesFront (g.K.Sink.written s.sink.now) (g.K.Sink.written c.put.new.sink) (bytes_owed s.full s.line ++ n ∷ [])) last whole
