-- Calls and settings, one after another.
use Rattle.std.proofs.Common.{List, None, Option, Some, [], arith, option_map, subst, sym, find, ℕ, ◌∷◌, ◌≡◌}
use Rattle.std.proofs.lemmas.Bool.Decides.{nat_tests}
use Rattle.portmachines.specs.Machines.{Machines}
use Rattle.lagsystem.specs.Settings.{ages_at}
use Rattle.lagsystem.specs.Sound.{PortsAgree}
use Rattle.lagsystem.specs.State.{SystemState, machines_of}
use Rattle.lagsystem.specs.Windows.{remembered_sends}
use Rattle.lagsystem.proofs.HostCallLemmas.{good_host, keeps_agreement as call_agrees}
use Rattle.lagsystem.proofs.Windows.{GoodAt, GoodIn, found, good_end, good_few, is_numbered, port_in}
use Rattle.law_host_runs.specs.Doing.{AgreementOfDoings, Calls, Does, DoesAll, Doing, Sets, StaysInWindow, WindowOfDoings, sends_after_doing, tick_after_doing}
use Rattle.law_host_runs.proofs.Sending.{good_by_ages}

none_some : (a : List ℕ) (X : Type 0) → ◌≡◌ {A = Option (List ℕ)} None (Some a) → X
none_some a X e = cc

ages_same : (a b : List ℕ) → ◌≡◌ {A = Option (List ℕ)} (Some a) (Some b) → a ≡ b
ages_same a b e = cc

-- a port whose ages stay keeps the window, and so does none
good_at : (now : ℕ) (before : List ℕ) (o p : Option Machines) → option_map (λ (x : Machines). x.ages) p ≡ option_map (λ (x : Machines). x.ages) o
    → GoodAt now before o → GoodAt now before p
good_at now before None None e g = g
good_at now before None (Some q) e g = none_some q.ages (GoodAt now before (Some q)) (sym e)
good_at now before (Some p) None e g = none_some p.ages (GoodAt now before None) e
good_at now before (Some p) (Some q) e g = good_by_ages now p q before (ages_same q.ages p.ages e) g

good_setting : (n now : ℕ) (before : List ℕ) (old new : SystemState) → ages_at n new ≡ ages_at n old → GoodIn n now before old.system_ports
    → GoodIn n now before new.system_ports
good_setting n now before old new e g = subst (λ o. GoodAt now before (port_in o)) (found n new.system_ports)
    (good_at now before (machines_of n old) (machines_of n new) e (subst (λ o. GoodAt now before (port_in o)) (sym (found n old.system_ports)) g))

good_doing : (gives : ℕ → ℕ → ℕ → Type 0) (n now : ℕ) (before : List ℕ) (old : SystemState) (doing : Doing) (new : SystemState) → Does gives old doing new
    → GoodIn n now before old.system_ports → GoodIn n (tick_after_doing doing now) (sends_after_doing n now doing before) new.system_ports
good_doing gives n now before old (Calls call reply) new h g = good_host gives n now before old call reply new h g
good_doing gives n now before old (Sets setting answer) new h g = good_setting n now before old new (h.window n) g

stays : (gives : ℕ → ℕ → ℕ → Type 0) (n now : ℕ) (before : List ℕ) (old new : SystemState) (doings : List Doing) → DoesAll gives old doings new
    → GoodIn n now before old.system_ports → StaysInWindow n now before doings
stays gives n now before old new [] h g = good_end now before (port_in (find (is_numbered n) old.system_ports)) g
stays gives n now before old new (doing ∷ doings) h g = (
  good_end now before (port_in (find (is_numbered n) old.system_ports)) g,
  stays gives n (tick_after_doing doing now) (sends_after_doing n now doing before) h.0 new doings h.2 (good_doing gives n now before old doing h.0 h.1 g),
)

pub keeps_window : (gives : ℕ → ℕ → ℕ → Type 0) → WindowOfDoings gives
keeps_window gives old new doings three run n now since = grind (arith, nat_tests, stays, remembered_sends, machines_of, port_in, found, good_few)

agrees_after : (gives : ℕ → ℕ → ℕ → Type 0) (old : SystemState) (doing : Doing) (new : SystemState) → PortsAgree old → Does gives old doing new → PortsAgree new
agrees_after gives old (Calls call reply) new a h = (call_agrees gives old call reply new a h).agrees
agrees_after gives old (Sets setting answer) new a h = h.agrees

pub keeps_agreement : (gives : ℕ → ℕ → ℕ → Type 0) → AgreementOfDoings gives
keeps_agreement gives old new [] a h = subst PortsAgree (sym h) a
keeps_agreement gives old new (doing ∷ doings) a h =
    keeps_agreement gives h.0 new doings (agrees_after gives old doing h.0 a h.1) h.2
