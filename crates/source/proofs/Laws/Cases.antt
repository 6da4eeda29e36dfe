-- A predicate that names a kind of machine holds of that kind alone: what follows from its clauses there, follows from it.
use Rattle.source.specs.JournalCache.{Variables, Ready, LoadingOther, LoadingSuperblock, ReadyVariables, LoadingOtherVariables, LoadingSuperblockVariables, IsReady, IsLoadingOther, IsLoadingSuperblock}

pub by_ready : (G : Variables → Type 0) (s : Variables) (P : ReadyVariables → Type 0) → ((r : ReadyVariables) → P r → G (Ready r)) → IsReady s P → G s
by_ready G (Ready s) P f h = f s h
by_ready G (LoadingOther s) P f h = absurd h
by_ready G (LoadingSuperblock s) P f h = absurd h

pub by_other : (G : Variables → Type 0) (s : Variables) (P : LoadingOtherVariables → Type 0) → ((r : LoadingOtherVariables) → P r → G (LoadingOther r)) → IsLoadingOther s P → G s
by_other G (Ready s) P f h = absurd h
by_other G (LoadingOther s) P f h = f s h
by_other G (LoadingSuperblock s) P f h = absurd h

pub by_superblock : (G : Variables → Type 0) (s : Variables) (P : LoadingSuperblockVariables → Type 0) → ((r : LoadingSuperblockVariables) → P r → G (LoadingSuperblock r))
    → IsLoadingSuperblock s P → G s
by_superblock G (Ready s) P f h = absurd h
by_superblock G (LoadingOther s) P f h = absurd h
by_superblock G (LoadingSuperblock s) P f h = f s h
