mod Plain
mod Ascii
mod LeafLemmas
mod Naming
mod Tops
mod Lists
