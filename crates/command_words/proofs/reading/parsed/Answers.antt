use Rattle.std.proofs.Common.{sym, subst, Err, ◌≡◌, ◌∙◌, ap, map, List, ℕ, option_map}
use Rattle.std.specs.Prelude.{Some, codes}
use Rattle.clap.specs.Words.{first_of, one_of, one_text, found_of, matches_of, rows_of}
use Rattle.clap.proofs.WalkLemmas.{first_value-rows, one_text-rows}
use Rattle.command_words.specs.Answered.{AnswersWords}
use Rattle.command_words.specs.Parsed.{program}
use Rattle.command_words.specs.declared.faults.WordsFault.TheVariants.{NoMemory}
use Rattle.command_words.specs.Words.{command_of}
use Rattle.command_words.specs.declared.commands.Command.{Command}
use Rattle.command_words.proofs.Parses.{flag_text, program_is_simple}
use Rattle.command_words.proofs.Readings.{some_of, spells, flag_of, same_flags, same_given, same_spelled, answered}
use Rattle.command_words.proofs.reading.parsed.Goals as goal

pub returns-clause-answers : goal.returns-clause-answers
returns-clause-answers c =
    let ws : List (List ℕ) = map (λ w. w.now) c.args.words.now in
    let found : (f : Command) × (command_of ws ≡ Some f) = some_of _ c.requires in
    let spelled = spells ws found.0 found.1 in
    let m = found_of c.in-Ok.matches in
    let rows : rows_of m ≡ matches_of program ws = (c.in-Ok.ensures.ok program_is_simple).0 in
    let json_text : one_text m (codes "json") ≡ Some (flag_text spelled.flags.json) =
    one_text-rows m (codes "json") ∙ ap (one_of (codes "json")) rows ∙ spelled.gives.json_is in
    let json_is : c.get_flag.result ≡ spelled.flags.json = flag_of spelled.flags.json c.get_flag.result _ json_text c.get_flag.ensures.value c.get_flag.ensures.other in
    let faults_text : one_text m (codes "faults") ≡ Some (flag_text spelled.flags.faults) =
    one_text-rows m (codes "faults") ∙ ap (one_of (codes "faults")) rows ∙ spelled.gives.faults_is in
    let faults_is : c.get_flag-2.result ≡ spelled.flags.faults = flag_of spelled.flags.faults c.get_flag-2.result _ faults_text c.get_flag-2.ensures.value c.get_flag-2.ensures.other in
    let word_is : option_map (λ s. s.now) c.get_str.result ≡ spelled.given.word =
    c.get_str.ensures ∙ first_value-rows m (codes "word") ∙ ap (first_of (codes "word")) rows ∙ spelled.gives.word_is in
    let first_is : option_map (λ s. s.now) c.get_str-2.result ≡ spelled.given.first =
    c.get_str-2.ensures ∙ first_value-rows m (codes "first") ∙ ap (first_of (codes "first")) rows ∙ spelled.gives.first_is in
    let second_is : option_map (λ s. s.now) c.get_str-3.result ≡ spelled.given.second =
    c.get_str-3.ensures ∙ first_value-rows m (codes "second") ∙ ap (first_of (codes "second")) rows ∙ spelled.gives.second_is in
    let third_is : option_map (λ s. s.now) c.get_str-4.result ≡ spelled.given.third =
    c.get_str-4.ensures ∙ first_value-rows m (codes "third") ∙ ap (first_of (codes "third")) rows ∙ spelled.gives.third_is in
    let fourth_is : option_map (λ s. s.now) c.get_str-5.result ≡ spelled.given.fourth =
    c.get_str-5.ensures ∙ first_value-rows m (codes "fourth") ∙ ap (first_of (codes "fourth")) rows ∙ spelled.gives.fourth_is in
    answered _ found.0 c.spelled.result c.ok_or.result found.1
    (c.spelled.ensures.command
    ∙ same_spelled _ _ _ _ (same_flags _ _ _ _ json_is faults_is) (same_given _ _ _ _ _ _ _ _ _ _ word_is first_is second_is third_is fourth_is) ∙ spelled.is)
    c.ok_or.ensures.value

pub returns-in-Err-clause-answers : goal.returns-in-Err-clause-answers
returns-in-Err-clause-answers c =
    let ws : List (List ℕ) = map (λ w. w.now) c.args.words.now in
    let found : (f : Command) × (command_of ws ≡ Some f) = some_of _ c.requires in
    let spelled = spells ws found.0 found.1 in
    let fault : c.fault_of.result ≡ NoMemory = c.fault_of.ensures (c.in-Err.ensures.err spelled.gives.taken) in
    subst (λ f. AnswersWords (command_of ws) (Err f)) (sym fault) c.requires
