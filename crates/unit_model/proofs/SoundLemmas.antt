-- What is known of sections that were read is all that the verdicts need.
use Rattle.std.proofs.Common.{List, All, arith}
use Rattle.std.proofs.lemmas.List.Elements.{All-weaker}
use Rattle.window_config.specs.declared.endpoints.EndpointConfig.{EndpointConfig}
use Rattle.unit_model.specs.Proper.{IsProperCommand, IsProperData}
use Rattle.unit_model.specs.Sound.{IsSoundCommand, IsSoundData}
use Rattle.unit_model.specs.declared.decoded.ControlSection.{ControlSection}
use Rattle.unit_model.specs.declared.decoded.UserSection.{UserSection}

pub sound_command : (es : List EndpointConfig) (c : ControlSection) → IsProperCommand es c → IsSoundCommand c
sound_command es c is = record { at = is.at; subframe = is.subframe; slot = is.slot; start_symbol = is.start_symbol; some = is.some; within = is.within }

pub sound_data : (es : List EndpointConfig) (d : UserSection) → IsProperData es d → IsSoundData d
sound_data es d is = record { first = is.first; last = is.last; subframe = is.subframe; slot = is.slot; symbol = is.symbol; within = is.within; blocks = omega (arith, is.blocks) }

pub all_sound : (es : List EndpointConfig) (ds : List UserSection) → All (IsProperData es) ds → All IsSoundData ds
all_sound es ds h = All-weaker (IsProperData es) IsSoundData (sound_data es) ds h
