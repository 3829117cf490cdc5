-- What is told of octets, by what is told of the text that they are, or of what is no text.
use Rattle.std.proofs.Common.{◌≡◌, ◌⊎◌, ℕ, List, [], Result, Ok, Err, IfOk, inl, inr, subst, take}
use Rattle.std.specs.Str.{IsUtf8}
use Rattle.std.specs.Str.Lossy.{utf8_valid_len}
use Rattle.std.specs.declared.alloc.AllocError.{AllocError}
use Rattle.lagtool_jobs.specs.ReplayReport.{IsReportOfScript}
use Rattle.lagpage.specs.Answers.{Tells}
use Rattle.lagpage.specs.Scripts.{SaysNoUtf8, TellsNoUtf8, TellsReplay, TellsScript, by_number}
use Rattle.lagpage.specs.Words.{TellsDecode, TellsDecodeOf, TellsNoWord, TellsRespond, TellsRespondOf}
use Rattle.lagpage.specs.declared.told.Told.{Told}

pub tells_no_text : (octets : List ℕ) (n : ℕ) (said : List ℕ) (r : Result Told AllocError) → n ≡ utf8_valid_len octets
    → SaysNoUtf8 (take n octets) said → IfOk r (Tells 2 [] said) → IfOk r (TellsNoUtf8 octets)
tells_no_text octets n said (Ok t) e p q = (said, subst (λ m. SaysNoUtf8 (take m octets) said) e p, q)
tells_no_text octets n said (Err x) e p q = tt

-- a report that is printed, and nothing else
pub tells_report : (text printed report : List ℕ) (r : Result Told AllocError) → IsReportOfScript by_number text report → printed ≡ report
    → IfOk r (Tells 0 printed []) → IfOk r (TellsScript text)
tells_report text printed report (Ok t) is e p = inl (record { report = report; is_report = is; told = subst (λ l. Tells 0 l [] t) e p })
tells_report text printed report (Err x) is e p = tt

pub replays : {octets text : List ℕ} (r : Result Told AllocError) → text ≡ octets → IsUtf8 octets → IfOk r (TellsScript text) → IfOk r (TellsReplay octets)
replays (Ok t) e u p = inl (u, subst (λ l. TellsScript l t) e p)
replays (Err x) e u p = tt

pub replays_no_text : {octets : List ℕ} (r : Result Told AllocError) → (IsUtf8 octets → ⊥) → IfOk r (TellsNoUtf8 octets) → IfOk r (TellsReplay octets)
replays_no_text (Ok t) n p = inr (n, p)
replays_no_text (Err x) n p = tt

pub decodes : {octets text : List ℕ} (r : Result Told AllocError) → text ≡ octets → IsUtf8 octets → IfOk r (TellsDecodeOf text) → IfOk r (TellsDecode octets)
decodes (Ok t) e u p = inl (u, subst (λ l. TellsDecodeOf l t) e p)
decodes (Err x) e u p = tt

pub decodes_no_text : {octets : List ℕ} (r : Result Told AllocError) → (IsUtf8 octets → ⊥) → IfOk r TellsNoWord → IfOk r (TellsDecode octets)
decodes_no_text (Ok t) n p = inr (n, p)
decodes_no_text (Err x) n p = tt

pub responds : {first second mac hex : List ℕ} (r : Result Told AllocError) → mac ≡ first → IsUtf8 first → hex ≡ second → IsUtf8 second
    → IfOk r (TellsRespondOf mac hex) → IfOk r (TellsRespond first second)
responds {first} {second} {mac} {hex} (Ok t) e u f v p =
    inl ((u, v), subst (λ l. TellsRespondOf l second t) e (subst (λ l. TellsRespondOf mac l t) f p))
responds (Err x) e u f v p = tt

pub responds_no_text : {first second : List ℕ} (r : Result Told AllocError) → (IsUtf8 first → ⊥) ⊎ (IsUtf8 second → ⊥) → IfOk r TellsNoWord
    → IfOk r (TellsRespond first second)
responds_no_text (Ok t) n p = inr (n, p)
responds_no_text (Err x) n p = tt
