-- What a call promises that changes the conversations alone and is not of `Call`.
use Rattle.std.specs.Prelude.{◌≡◌, List}
use Rattle.lagmodel.specs.View.{ModelCall}
use Rattle.lagmodel.specs.Move.{Act, LawfulMoves}
use Rattle.lagsystem.specs.ModelView.{model_setup, model_view}
use Rattle.lagsystem.specs.Sound.{PortsAgree}
use Rattle.lagsystem.specs.State.{SystemState, with_table}

-- The model allows it, as this call and with just these visible acts. No port changes, so no LACPDU is sent and each port
-- keeps its transmit limit. The ports agree after it (`PortsAgree`); and the configuration stays, with the count of
-- conversations and the limit of links.
pub record TablePromise (call : ModelCall) (acts : List Act) (old new : SystemState) : Type 0 where
  pub others : new ≡ with_table old new.table
  pub moves : LawfulMoves (model_setup old) call (model_view old) acts (model_view new)
  pub agrees : PortsAgree new
  pub configured : model_setup new ≡ model_setup old
  pub conversations : new.conversations ≡ old.conversations
  pub max_links : new.max_links ≡ old.max_links
