-- Each call, and each list of calls, has an answer.
use Rattle.std.proofs.Common.{[], refl, ℕ, ◌∷◌}
use Rattle.lagsystem.specs.Calls.{Call, Configure, Force, Move_conversation, Offer, Receive, Restart, Set_link, Tick, Transmit}
use Rattle.lagsystem.specs.Sound.{IsSound}
use Rattle.lagsystem.specs.State.{SystemState}
use Rattle.lagsystem.proofs.Sound.{Step-sound, answers}
use Rattle.law_answers.specs.Answers.{EachCallHasAnAnswer, EachListHasAnswers, PicksOne}
use Rattle.law_answers.specs.Fits.{CallFits, NumbersFit}
use Rattle.law_answers.proofs.Changing.{Finds, configures, restarts, sets_link, ticks}
use Rattle.law_answers.proofs.Offering.{forces, moves, offers}
use Rattle.law_answers.proofs.Receiving.{receives}
use Rattle.law_answers.proofs.Sending.{transmits}

finds : (gives : ℕ → ℕ → ℕ → Type 0) (old : SystemState) (call : Call) → PicksOne gives → IsSound old → NumbersFit old → CallFits call → Finds gives old call
finds gives old (Receive n octets) one sound fits h = receives gives old n octets fits h
finds gives old Tick one sound fits h = ticks gives old fits
finds gives old (Set_link n up) one sound fits h = sets_link gives old n up fits
finds gives old (Configure n change) one sound fits h = configures gives old n change fits h.0 h.1
finds gives old Restart one sound fits h = restarts gives old fits
finds gives old (Transmit n) one sound fits h = transmits gives old n fits
finds gives old (Offer agg octets) one sound fits h = offers gives old agg octets one sound fits
finds gives old (Move_conversation agg conv port) one sound fits h = moves gives old agg conv port sound fits
finds gives old (Force agg conv) one sound fits h = forces gives old agg conv sound fits

pub each_call : (gives : ℕ → ℕ → ℕ → Type 0) → EachCallHasAnAnswer gives
each_call gives old call one sound fits h = let x = finds gives old call one sound fits h in record {
  answer = x.0;
  new = x.1;
  promise = answers gives old call x.0 x.1 x.2 sound;
  sound = Step-sound gives old call x.0 x.1 x.2 sound;
  fits = x.3;
}

pub each_list : (gives : ℕ → ℕ → ℕ → Type 0) → EachListHasAnswers gives
each_list gives old [] one sound fits h = record { answers = []; new = old; run = refl; sound = sound; fits = fits }
each_list gives old (call ∷ calls) one sound fits h =
    let x = each_call gives old call one sound fits h.0 in
    let more = each_list gives x.new calls one x.sound x.fits h.1 in record {
      answers = x.answer ∷ more.answers;
      new = more.new;
      run = (x.new, x.promise, more.run);
      sound = more.sound;
      fits = more.fits;
    }
