use Rattle.std.proofs.Common.{List, Ok, subst}
use Rattle.market_model.specs.declared.participants.TransmissionRight.{TransmissionRight}
use Rattle.command_answers.specs.Rights.{EntitlesTo}
use Rattle.command_answers.specs.Tellings.{telling_of}
use Rattle.command_answers.proofs.IfOkLemmas.{if_ok-map}
use Rattle.command_answers.proofs.rights.rights_told.Goals as goal
use Rattle.number_bits.specs.Bits.{most_of}

pub returns-in-Ok-clause-tells : goal.returns-in-Ok-clause-tells
returns-in-Ok-clause-tells c =
    let made = c.in-Ok.made in
    if_ok-map _ _ c.rights_by.result
    (λ told e. record {
      told = Ok (record { market = made.market; rights = made.rights });
      stands = c.in-Ok.ensures.told;
      comes = record {
        market = c.in-Ok.ensures.kept.0;
        rights = c.in-Ok.ensures.kept.1;
        entitles = subst (λ (rs : List TransmissionRight). EntitlesTo (most_of c.args.bits) made.market rs (telling_of told)) c.slice.ensures e;
      };
    })
    c.rights_by.ensures.entitles
