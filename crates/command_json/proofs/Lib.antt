mod KeyLemmas
mod LoadLemmas
mod TextLemmas
mod ValueLemmas
