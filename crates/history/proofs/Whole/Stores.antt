-- Any store whose calls are seen as the relations': a list of calls that it was given, with its answers, is a list of the history, so that what whole
-- histories tell, stores tell.
use Rattle.std.specs.Prelude.{Bool, true, false, List, [], ◌∷◌, map}
use Rattle.std.proofs.Common.{ap, subst}
use Rattle.layout.specs.declared.Geometry.{Geometry}
use Rattle.codec.specs.Codec.{Codec}
use Rattle.source.specs.JournalCache as M
use Rattle.source.specs.JournalSystem as Y
use Rattle.source.specs.Limits.{Limits}
use Rattle.history.specs.Statement.{Takes, Goes, Trace, Loaded, Store, Ran, LoadedStore}

module _ (g : Geometry) (C : Codec) (L : Limits) (S : Store g C L) where
  goes : (s : S.State) (x : S.Made) (b : Bool) (t : S.State) → S.Promise s x b t → Goes (Takes g C L) (S.view s) (S.call x) b (S.view t)
  goes s x true t h = S.sound s x t h
  goes s x false t h = S.refused s x t h

  -- a list of its calls is a list of the history
  pub ran_trace : (s : S.State) (xs : List S.Made) (bs : List Bool) (t : S.State) → Ran S s xs bs t → Trace g C L (S.view s) (map S.call xs) bs (S.view t)
  ran_trace s [] [] t h = ap S.view h
  ran_trace s [] (b ∷ bs) t h = absurd h
  ran_trace s (x ∷ xs) [] t h = absurd h
  ran_trace s (x ∷ xs) (b ∷ bs) t h = (S.view h.0, goes s x b h.0 h.1, ran_trace h.0 xs bs t h.2)

  -- a loaded store is a loaded history
  pub store_loaded : (first : Y.Variables) (s : S.State) (calls : List S.Made) (answers : List Bool) (crashing : S.Made) (loading : List S.Made) (loaded : List Bool) (r : M.ReadyVariables)
      → LoadedStore S first s calls answers crashing loading loaded r → Loaded g C L first (map S.call calls) answers (map S.call loading) loaded r
  store_loaded first s calls answers crashing loading loaded r h =
      record {
        before = S.view h.before;
        ran = subst (λ (u : Y.Variables). Trace g C L u (map S.call calls) answers (S.view h.before)) h.begins (ran_trace s calls answers h.before h.ran);
        after = S.view h.after;
        crashed = subst (Takes g C L (S.view h.before) (S.view h.after)) h.crash_is (S.sound h.before crashing h.after h.crashed);
        end = S.view h.end;
        load = ran_trace h.after loading loaded h.end h.load;
        only_loads = h.only_loads;
        ready = h.ready;
      }
