-- What a call of the store says: the run of one question.
use Rattle.std.proofs.Common.{◌≡◌, inl, refl, ℕ, ◌+◌, ◌-◌, ◌^◌, ◌≤◌, min, List, [], ◌∷◌, length, take, drop, Option, Some, None, IfSome, Result, Ok, Err, OnOk, IfOk, IfErr, IsSomeAnd, arith}
use Rattle.std.specs.Option.{option_map, unwrap_or}
use Rattle.frz_store.specs.Bytes.{AreBytes}
use Rattle.frz_store.specs.Files.{Files, Covers}
use Rattle.frz_store.specs.Told.{StoreTold, StoreQuiet}
use Rattle.frz_store.specs.Outside.{IsNext, StoreCauses}
use Rattle.frz_store.specs.declared.outside.StoreFault.{StoreFault}
use Rattle.frz_store.specs.declared.outside.StoreFault.TheVariants.{Failed, NoMemory}
use Rattle.frz_asks.specs.Trees.{Asks, gives, file_size, file_bytes, ask_size, ask_bytes, bytes_in}
use Rattle.frz_asks.specs.Traces.{Trace, calls_in, bytes_asked, next_calls, next_bytes}
use Rattle.frz_asks.specs.Runs.{came, halted, end_by, EndsAt, Run}

quiet_call : {T : Type 0} (r : Result T StoreFault) (old new : StoreTold) → new.files ≡ old.files
    → new.last ≡ old.last → new.room ≡ old.room → old.asked ≤ new.asked → IsNext old.calls new.calls
    → StoreCauses old.faults new.faults old.wants new.wants r → StoreQuiet old new
quiet_call r old new files last room asked calls causes = record {
  unwritten = record { files = files; last = last; room = room };
  later = record {
    asked = asked;
    calls = calls.later;
    faults = causes.later;
    wants = causes.wants_later;
  };
}

one_call : (old new : ℕ) → IsNext old new → new ≤ old + 1
one_call old new h =
    let e : new ≡ min (old + 1) (2 ^ 64 - 1) = h.next in omega (arith, e)

rose : {A T : Type 0} (p : Asks A) (h : StoreFault) (old new : StoreTold)
    → StoreCauses {T = T} old.faults new.faults old.wants new.wants (Err h)
    → EndsAt p (halted h) old new
rose p Failed old new c = c.failed refl
rose p NoMemory old new c = inl (c.no_memory refl)

pub size_came : (name : List ℕ) (r : Result (Option ℕ) StoreFault) (old new : StoreTold)
    → IfOk r (λ n. IfSome old.files (λ m. n ≡ option_map length (m name)))
    → new.files ≡ old.files → new.last ≡ old.last → new.room ≡ old.room → new.asked ≡ old.asked
    → IsNext old.calls new.calls → StoreCauses old.faults new.faults old.wants new.wants r
    → Run (ask_size name) (end_by (λ n. n) r) old new
unfolding ask_size Trace calls_in bytes_asked next_calls next_bytes
size_came name (Ok n) old new is files last room asked calls causes = record {
  seen = file_size name ∷ [];
  rest = gives n;
  trace = record { same = refl; answer = n; fits = record { so = is }; next = refl };
  ends = (refl, record { faults = causes.fine; wants = causes.wants_fine });
  quiet = quiet_call (Ok n) old new files last room (omega (arith, asked)) calls causes;
  calls = one_call old.calls new.calls calls;
  asked = omega (arith, asked);
}
size_came name (Err h) old new is files last room asked calls causes = record {
  seen = [];
  rest = ask_size name;
  trace = refl;
  ends = rose (ask_size name) h old new causes;
  quiet = quiet_call (Err h) old new files last room (omega (arith, asked)) calls causes;
  calls = one_call old.calls new.calls calls;
  asked = omega (arith, asked);
}

bytes_there : (held : Option (List ℕ)) (at count : ℕ) (l : List ℕ)
    → IsSomeAnd held (λ bytes. at + count ≤ length bytes)
    → IfSome held (λ bytes. l ≡ take count (drop at bytes))
    → l ≡ take count (drop at (unwrap_or held []))
bytes_there None at count l h k = absurd h
bytes_there (Some bytes) at count l h k = k

bytes_so : (told : Option Files) (name : List ℕ) (at count : ℕ) (l : List ℕ)
    → IfSome told (Covers at count name)
    → IfSome told (λ m. IfSome (m name) (λ bytes. l ≡ take count (drop at bytes)))
    → IfSome told (λ m. l ≡ bytes_in m name at count)
bytes_so None name at count l h k = tt
bytes_so (Some m) name at count l h k = bytes_there (m name) at count l h k

pub bytes_came : (name : List ℕ) (at : ℕ) (before l : List ℕ) (r : Result (Unit {0}) StoreFault)
    (old new : StoreTold) → IfSome old.files (Covers at (length before) name)
    → length l ≡ length before → AreBytes l
    → OnOk r (IfSome old.files (λ m. IfSome (m name) (λ bytes. l ≡ take (length before) (drop at bytes))))
    → new.files ≡ old.files → new.last ≡ old.last → new.room ≡ old.room
    → new.asked ≡ min (old.asked + length before) (2 ^ 64 - 1) → old.asked ≤ new.asked
    → IsNext old.calls new.calls → StoreCauses old.faults new.faults old.wants new.wants r
    → OnOk r (Run (ask_bytes name at (length before)) (came l) old new)
unfolding ask_bytes Trace calls_in bytes_asked next_calls next_bytes
bytes_came name at before l (Ok t) old new covers long bytes is files last room asked grows calls causes =
    record {
      seen = file_bytes name at (length before) ∷ [];
      rest = gives l;
      trace = record {
        same = refl;
        answer = l;
        fits = record {
          long = long;
          bytes = bytes;
          so = bytes_so old.files name at (length before) l covers is;
        };
        next = refl;
      };
      ends = (refl, record { faults = causes.fine; wants = causes.wants_fine });
      quiet = quiet_call (Ok t) old new files last room grows calls causes;
      calls = one_call old.calls new.calls calls;
      asked = omega (arith, asked);
    }
bytes_came name at before l (Err h) old new covers long bytes is files last room asked grows calls causes = tt

pub bytes_halted : (name : List ℕ) (at : ℕ) (before : List ℕ) (r : Result (Unit {0}) StoreFault)
    (old new : StoreTold)
    → new.files ≡ old.files → new.last ≡ old.last → new.room ≡ old.room
    → new.asked ≡ min (old.asked + length before) (2 ^ 64 - 1) → old.asked ≤ new.asked
    → IsNext old.calls new.calls → StoreCauses old.faults new.faults old.wants new.wants r
    → IfErr r (λ h. Run (ask_bytes name at (length before)) (halted h) old new)
unfolding ask_bytes Trace calls_in bytes_asked next_calls next_bytes
bytes_halted name at before (Ok t) old new files last room asked grows calls causes = tt
bytes_halted name at before (Err h) old new files last room asked grows calls causes = record {
  seen = [];
  rest = ask_bytes name at (length before);
  trace = refl;
  ends = rose (ask_bytes name at (length before)) h old new causes;
  quiet = quiet_call (Err h) old new files last room grows calls causes;
  calls = one_call old.calls new.calls calls;
  asked = omega (arith, asked);
}
